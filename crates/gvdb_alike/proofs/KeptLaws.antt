-- What has the same bytes as in a sound table is like it: so a table is sound whose items are kept, by their bytes or their parts.
use Rattle.std.proofs.Common.{ℕ, zero, suc, ◌+◌, ◌<◌, ◌≤◌, ◌/◌, ◌%◌, ◌^◌, ◌≡◌, ◌∙◌, true, eqb, eqb-true, ltb-true, ap, sym, refl, subst, inl, inr, arith}
use Rattle.std.specs.Prelude.{◌⊎◌, ◌==◌, ◌&&◌, IsBitSet, List, if◌then◌else◌, length, nat_le, nat_lt}
use Rattle.std.proofs.lemmas.Bool.{eqb-false, ne_eqb}
use Rattle.std.proofs.Math.Logic.{∥∥₁_map}
use Rattle.std.proofs.Math.Nat.{mod-lt}
use Rattle.dconf_model.specs.Search.{PassesBloom, bloom_word_of, span_end, span_start}
use Rattle.dconf_model.specs.Searchable.{EachItem, HasBuckets, IsInBloom, IsInSpan}
use Rattle.dconf_model.specs.Sound.{IsSound}
use Rattle.dconf_model.specs.Sound.Rule.{bloom, buckets, content, span}
use Rattle.dconf_model.specs.Table.{Item, Table, HasBytes, IsValidPointer, alignment_of, bloom_shift, bloom_word, bloom_words, bucket, bucket_count, bytes_of, item, item_count, list_kind, value_kind}
use Rattle.dconf_model.proofs.ParentLaws.{by_bool}
use Rattle.gvdb_alike.specs.ItemsAlike.{HasLikeBytes, IsItemAlike}
use Rattle.gvdb_alike.specs.SameBytes.{AreBucketsKept, HasSameHead, HasSameList, IsShapeKept}
use Rattle.gvdb_alike.proofs.SettledLaws.{settled}
use Rattle.gvdb_alike.proofs.ShapedLaws.{sound_by_shape}

-- ---- spans, by the buckets' numbers

abbrev start_of : ℕ → (ℕ → ℕ) → ℕ → ℕ
start_of n b hash = if n == 0 then 0 else b (hash % n)

abbrev end_of : ℕ → (ℕ → ℕ) → ℕ → ℕ → ℕ
end_of n b items hash = if n == 0 then 0 else if nat_lt (hash % n + 1) n && nat_le (b (hash % n + 1)) items then b (hash % n + 1) else items

module _ (b c : ℕ → ℕ) (hash : ℕ) where
  same_start : (n : ℕ) → ((k : ℕ) → k < n → b k ≡ c k) → start_of n b hash ≡ start_of n c hash
  same_start zero same = refl
  same_start (suc n) same = rw (ne_eqb (suc n) 0 (omega arith)) (same (hash % suc n) (mod-lt hash {m = suc n} (omega arith)))

  same_end : (n items : ℕ) → ((k : ℕ) → k < n → b k ≡ c k) → end_of n b items hash ≡ end_of n c items hash
  same_end zero items same = refl
  same_end (suc n) items same =
      rw (ne_eqb (suc n) 0 (omega arith))
      (by_bool (nat_lt (hash % suc n + 1) (suc n))
      ((if nat_lt (hash % suc n + 1) (suc n) && nat_le (b (hash % suc n + 1)) items then b (hash % suc n + 1) else items)
      ≡ (if nat_lt (hash % suc n + 1) (suc n) && nat_le (c (hash % suc n + 1)) items then c (hash % suc n + 1) else items))
      (λ within. ap (λ (m : ℕ). if nat_lt (hash % suc n + 1) (suc n) && nat_le m items then m else items) (same (hash % suc n + 1) (lt_of (hash % suc n + 1) (suc n) within)))
      (λ last. rw last refl))
    where
      lt_of : (m k : ℕ) → nat_lt m k ≡ true → m < k
      lt_of m k e = ltb-true m k e

module _ (t u : Table) (head : HasSameHead t u) where
  start_kept : (hash : ℕ) → span_start t hash ≡ span_start u hash
  start_kept hash = same_start (bucket t) (bucket u) hash (bucket_count t) head.bucket ∙ ap (λ n. start_of n (bucket u) hash) head.buckets

  end_kept : (hash : ℕ) → span_end t hash ≡ span_end u hash
  end_kept hash =
      same_end (bucket t) (bucket u) hash (bucket_count t) (item_count t) head.bucket
      ∙ ap (λ n. end_of n (bucket u) (item_count t) hash) head.buckets
      ∙ ap (λ n. end_of (bucket_count u) (bucket u) n hash) head.counted

  word_kept : (hash : ℕ) → 0 < bloom_words t → bloom_word_of t hash ≡ bloom_word_of u hash
  word_kept hash some =
      head.word (hash / 32 % bloom_words t) (mod-lt (hash / 32) {m = bloom_words t} some)
      ∙ ap (λ n. bloom_word u (hash / 32 % n)) head.words

  bits_kept : (hash : ℕ) → 0 < bloom_words t → PassesBloom u hash → PassesBloom t hash
  bits_kept hash some (inl none) = inl (head.words ∙ none)
  bits_kept hash some (inr bits) = inr (
    subst (λ (w : ℕ). IsBitSet w (hash % 32)) (sym (word_kept hash some)) bits.0,
    subst (λ (w : ℕ). IsBitSet w (hash / 2 ^ bloom_shift t % 32)) (sym (word_kept hash some))
        (subst (λ (n : ℕ). IsBitSet (bloom_word_of u hash) (hash / 2 ^ n % 32)) (sym head.shift) bits.1),
  )

  bloom_kept : (hash : ℕ) → PassesBloom u hash → PassesBloom t hash
  bloom_kept hash passes =
      by_bool (eqb (bloom_words t) 0) (PassesBloom t hash)
      (λ none. inl (eqb-true (bloom_words t) 0 none))
      (λ some. let ne = eqb-false (bloom_words t) 0 some in bits_kept hash (omega (arith, ne)) passes)

  buckets_kept : HasBuckets u → HasBuckets t
  buckets_kept good = record {
    some = λ lt. let some = good.some (subst (λ n. 0 < n) head.counted lt) in subst (λ n. 0 < n) (sym head.buckets) some;
    from_zero = λ lt. head.bucket 0 lt ∙ good.from_zero (subst (λ n. 0 < n) head.buckets lt);
    rising = λ b lt.
        let le = good.rising b (subst (λ n. b + 1 < n) head.buckets lt) in
        let one = head.bucket b (omega (arith, lt)) in
        let two = head.bucket (b + 1) lt in
        omega (arith, le, one, two);
    counted = λ b lt.
        let le = good.counted b (subst (λ n. b < n) head.buckets lt) in
        let one = head.bucket b lt in
        let n = head.counted in
        omega (arith, le, one, n);
  }

-- ---- items

module _ (t u : Table) (i : ℕ) (kept : HasSameList t u i) where
  span_of : IsInSpan u i → IsInSpan t i
  span_of in_span =
      let hash = ap (λ (it : Item). it.hash) kept.numbers in
      record {
        first = subst (λ (h : ℕ). span_start t h ≤ i) (sym hash) (subst (λ (n : ℕ). n ≤ i) (sym (start_kept t u kept.head (item u i).hash)) in_span.first);
        before = subst (λ (h : ℕ). i < span_end t h) (sym hash) (subst (λ (n : ℕ). i < n) (sym (end_kept t u kept.head (item u i).hash)) in_span.before);
      }

  bloom_of : IsInBloom u i → IsInBloom t i
  bloom_of in_bloom = subst (PassesBloom t) (sym (ap (λ (it : Item). it.hash) kept.numbers)) (bloom_kept t u kept.head (item u i).hash in_bloom)

  bytes_valid : HasBytes u i → HasBytes t i
  bytes_valid valid =
      subst (λ (it : Item). IsValidPointer t.file (alignment_of it.kind) it.start it.end) (sym kept.numbers)
      (record { ordered = valid.ordered; inside = subst (λ (n : ℕ). (item u i).end ≤ n) (sym kept.head.len) valid.inside; aligned = valid.aligned })

alike_by_bytes : (t u : Table) (i : ℕ) → IsSound u → i < item_count u → IsShapeKept t u i → IsItemAlike t u i
alike_by_bytes t u i sound there (inr alike) = alike
alike_by_bytes t u i sound there (inl kept) = record {
  step = kept.step;
  content = record {
    hash = ap (λ (it : Item). it.hash) kept.list.numbers;
    kind = ap (λ (it : Item). it.kind) kept.list.numbers;
    valid = bytes_valid t u i kept.list (sound content i there).valid;
    bytes = kept.list.bytes;
  };
  in_span = span_of t u i kept.list (sound span i there);
  in_bloom = bloom_of t u i kept.list (sound bloom i there);
}

buckets_by_head : (t u : Table) → IsSound u → AreBucketsKept t u → HasBuckets t
buckets_by_head t u sound (inl head) = buckets_kept t u head (sound buckets)
buckets_by_head t u sound (inr good) = good

usual_bytes : (kind : ℕ) (bytes same : List ℕ) → HasLikeBytes kind bytes same → (kind ≡ value_kind) ⊎ (kind ≡ list_kind)
usual_bytes kind bytes same (inl value) = inl value
usual_bytes kind bytes same (inr list) = inr list.0

usual_of : (t u : Table) (i : ℕ) → IsShapeKept t u i → ((item t i).kind ≡ value_kind) ⊎ ((item t i).kind ≡ list_kind)
usual_of t u i (inl kept) = usual_bytes (item t i).kind (bytes_of t i) (bytes_of u i) kept.list.bytes
usual_of t u i (inr alike) = usual_bytes (item t i).kind (bytes_of t i) (bytes_of u i) alike.content.bytes

-- it need not be known how the other table is sound
pub known_by_shape : (t u : Table) → item_count t ≡ item_count u → EachItem t (IsShapeKept t u) → AreBucketsKept t u → ∥ IsSound u ∥₁ → IsSound t
known_by_shape t u counted each good known =
    settled t
    (∥∥₁_map known (λ s.
    sound_by_shape t u counted (λ i here. alike_by_bytes t u i s (subst (λ n. i < n) counted here) (each i here)) s (buckets_by_head t u s good)))
    (λ i here. usual_of t u i (each i here))

-- Where it is known that a table is sound, but not how, it can be said how: each rule is decided by what its items have.
use Rattle.std.proofs.Common.{ℕ, zero, suc, ◌+◌, ◌-◌, ◌/◌, ◌%◌, ◌^◌, ◌<◌, ◌≤◌, ◌≡◌, ◌≢◌, ◌⊎◌, ◌∙◌, ◌++◌, true, List, [], ◌∷◌, length, take, Option, Some, None, ap, sym, refl, subst, inl, inr, arith, eqb, eqb-true, ltb-true, ltb-false, codes}
use Rattle.std.specs.Prelude.{Contains, IfSome, IsBitSet, nat_lt}
use Rattle.std.specs.Str.{is_utf8}
use Rattle.std.specs.Coded.{coded_list, coded_option, coded_ℕ}
use Rattle.std.proofs.lemmas.Bool.{eqb-false}
use Rattle.std.proofs.Math.Bool.{Bool-set}
use Rattle.std.proofs.Math.Logic.{∥∥₁_elim}
use Rattle.std.proofs.lemmas.List.{length-append, take_at}
use Rattle.std.proofs.lemmas.Option.{none-some, same_Some}
use Rattle.std.proofs.lemmas.Str.{IsUtf8-from_is_utf8, is_utf8-from_IsUtf8}
use base.Stored.{Coded-set}
use Rattle.dconf_model.specs.Names.{HasName, HasParents, name_of}
use Rattle.dconf_model.specs.Search.{PassesBloom, bloom_word_of, span_end, span_start}
use Rattle.dconf_model.specs.Searchable.{EachItem, HasBuckets, HasContent, HasEnd, HasGoodKey, HasHash, IsInBloom, IsInSpan, IsKind, IsOnlyNamed, LeadsUp}
use Rattle.dconf_model.specs.Sound.{HasListIfAny, HasLocksIfAny, HasParent, HasPlace, IsDirectoryPart, IsPart, IsSound, IsTop, list_length, listed}
use Rattle.dconf_model.specs.Sound.Rule.{buckets, keys, chain, hash, span, bloom, once, content, place, lists, locks}
use Rattle.dconf_model.specs.Table.{Table, alignment_of, bloom_shift, bloom_words, bucket, bucket_count, item, item_count, key, list_kind, table_kind, value_kind}
use Rattle.dconf_model.proofs.ComputedNames.{name_of_named, named_of_name}
use Rattle.dconf_model.proofs.DirectoryNames.{list_is_no_table, list_is_no_value, locks_are_a_table}
use Rattle.dconf_model.proofs.FullNames.{has_full_name}
use Rattle.dconf_model.proofs.ParentLaws.{by_bool}
use Rattle.dconf_model.proofs.PartsBelow.{value_is_no_table}

-- a value or a list
abbrev pub IsUsual : Table → ℕ → Type 0
IsUsual t i = ((item t i).kind ≡ value_kind) ⊎ ((item t i).kind ≡ list_kind)

-- the number below n that has this answer
find_below : (n : ℕ) (f : ℕ → ℕ) (j : ℕ) → ¬ ((k : ℕ) → k < n → f k ≢ j) → (k : ℕ) × (k < n) × (f k ≡ j)
find_below zero f j none = absurd (none (λ k lt. absurd (omega (arith, lt))))
find_below (suc n) f j none =
    by_bool (eqb (f n) j) ((k : ℕ) × (k < suc n) × (f k ≡ j))
    (λ yes. (n, omega arith, eqb-true (f n) j yes))
    (λ no.
    let found = find_below n f j (λ all. none (λ k lt. by_bool (nat_lt k n) (f k ≢ j)
    (λ below. all k (ltb-true k n below))
    (λ above.
    let last : k ≡ n = let ge = ltb-false k n above in omega (arith, lt, ge) in
    λ e. eqb-false (f n) j no (ap f (sym last) ∙ e)))) in
    (found.0, omega (arith, found.1), found.2))

leads_of : (t : Table) (ps : List ℕ) (i : ℕ) → HasParents t i ps → LeadsUp t i ps
leads_of t [] i h = h.1
leads_of t (p ∷ ps) i h = (h.1, leads_of t ps p h.3)

kind_usual : (kind : ℕ) → (kind ≡ value_kind) ⊎ (kind ≡ list_kind) → IsKind kind
kind_usual kind (inl value) = inl value
kind_usual kind (inr list) = inr (inl list)

no_table : (kind : ℕ) → (kind ≡ value_kind) ⊎ (kind ≡ list_kind) → kind ≡ table_kind → ⊥
no_table kind (inl value) table = value_is_no_table (sym value ∙ table)
no_table kind (inr list) table = list_is_no_table (sym list ∙ table)

module _ (t : Table) (h : ∥ IsSound t ∥₁) (usual : EachItem t (IsUsual t)) where
  no : (IsSound t → ⊥) → ⊥
  no f = ∥∥₁_elim h (λ x y. absurd x) f

  number : (a b : ℕ) → (IsSound t → a ≡ b) → a ≡ b
  number a b f = ∥∥₁_elim h (Coded-set coded_ℕ a b) f

  bytes : (a b : List ℕ) → (IsSound t → a ≡ b) → a ≡ b
  bytes a b f = ∥∥₁_elim h (Coded-set (coded_list coded_ℕ) a b) f

  parent : (a b : Option ℕ) → (IsSound t → a ≡ b) → a ≡ b
  parent a b f = ∥∥₁_elim h (Coded-set (coded_option coded_ℕ) a b) f

  less : (a b : ℕ) → (IsSound t → a < b) → a < b
  less a b f =
      by_bool (nat_lt a b) (a < b) (λ yes. ltb-true a b yes)
      (λ above. absurd (no (λ s. let lt = f s in let ge = ltb-false a b above in omega (arith, lt, ge))))

  most : (a b : ℕ) → (IsSound t → a ≤ b) → a ≤ b
  most a b f = let lt = less a (b + 1) (λ s. let le = f s in omega (arith, le)) in omega (arith, lt)

  -- ---- S1, S5 and S6

  buckets_kept : HasBuckets t
  buckets_kept = record {
    some = λ lt. less 0 (bucket_count t) (λ s. (s buckets).some lt);
    from_zero = λ lt. number (bucket t 0) 0 (λ s. (s buckets).from_zero lt);
    rising = λ b lt. most (bucket t b) (bucket t (b + 1)) (λ s. (s buckets).rising b lt);
    counted = λ b lt. most (bucket t b) (item_count t) (λ s. (s buckets).counted b lt);
  }

  span_kept : EachItem t (IsInSpan t)
  span_kept i here = record {
    first = most (span_start t (item t i).hash) i (λ s. (s span i here).first);
    before = less i (span_end t (item t i).hash) (λ s. (s span i here).before);
  }

  bits_of : (code : ℕ) → bloom_words t ≢ 0 → PassesBloom t code → IsBitSet (bloom_word_of t code) (code % 32) × IsBitSet (bloom_word_of t code) (code / 2 ^ bloom_shift t % 32)
  bits_of code some (inl none) = absurd (some none)
  bits_of code some (inr bits) = bits

  bloom_kept : EachItem t (IsInBloom t)
  bloom_kept i here =
      by_bool (eqb (bloom_words t) 0) (IsInBloom t i)
      (λ none. inl (eqb-true (bloom_words t) 0 none))
      (λ some.
      let bits = bits_of (item t i).hash (eqb-false (bloom_words t) 0 some) in
      inr (λ e. no (λ s. (bits (s bloom i here)).0 e), λ e. no (λ s. (bits (s bloom i here)).1 e)))

  -- ---- S2 and S3

  parent_there : (i : ℕ) (o : Option ℕ) → (IsSound t → IfSome o (λ p. p < item_count t)) → IfSome o (λ p. p < item_count t)
  parent_there i None f = tt
  parent_there i (Some p) f = less p (item_count t) f

  keys_kept : EachItem t (HasGoodKey t)
  keys_kept i here = record {
    inside = most (item t i).key_end (length t.file) (λ s. (s keys i here).inside);
    utf8 = IsUtf8-from_is_utf8 (key t i) (∥∥₁_elim h (Bool-set (is_utf8 (key t i)) true) (λ s. is_utf8-from_IsUtf8 (key t i) (s keys i here).utf8));
    no_nul = λ has. no (λ s. (s keys i here).no_nul has);
    parent = parent_there i (item t i).parent (λ s. (s keys i here).parent);
  }

  name_here : (i : ℕ) → i < item_count t → (o : Option (List ℕ)) → name_of t i ≡ o → (name : List ℕ) × HasName t i name
  name_here i here None e = absurd (no (λ s. none-some _ (sym e ∙ name_of_named t i _ (has_full_name t i (s keys) (s chain) here))))
  name_here i here (Some name) e = (name, named_of_name t i name e)

  chain_kept : EachItem t (HasEnd t)
  chain_kept i here =
      let named = (name_here i here (name_of t i) refl).1 in
      record {
        parents = named.parents;
        ends = leads_of t named.parents i named.chain;
        key = less 0 (length (key t i)) (λ s. (s chain i here).key);
      }

  -- ---- S4, S7 and S8

  hash_kept : EachItem t (HasHash t)
  hash_kept i here name named = number _ _ (λ s. s hash i here name named)

  once_kept : EachItem t (IsOnlyNamed t)
  once_kept i here name j one other below = no (λ s. s once i here name j one other below)

  content_kept : EachItem t (HasContent t)
  content_kept i here = record {
    kind = kind_usual (item t i).kind (usual i here);
    valid = record {
      ordered = most (item t i).start (item t i).end (λ s. (s content i here).valid.ordered);
      inside = most (item t i).end (length t.file) (λ s. (s content i here).valid.inside);
      aligned = number ((item t i).start % alignment_of (item t i).kind) 0 (λ s. (s content i here).valid.aligned);
    };
    whole = λ is. number _ _ (λ s. (s content i here).whole is);
  }

  -- ---- S9

  top_of : (i : ℕ) → (item t i).kind ≡ list_kind → IsTop t i → key t i ≡ codes "/"
  top_of i list (inl root) = root.1
  top_of i list (inr table) = absurd (list_is_no_table (sym list ∙ table.0))

  no_top : (i : ℕ) → (item t i).kind ≡ value_kind → IsTop t i → ⊥
  no_top i value (inl root) = list_is_no_value (sym root.0 ∙ value)
  no_top i value (inr table) = value_is_no_table (sym value ∙ table.0)

  plain_of : (i : ℕ) → (item t i).kind ≡ value_kind → IsPart t i → ¬ Contains (key t i) 47
  plain_of i value (inl plain) = plain.1
  plain_of i value (inr list) = absurd (list_is_no_value (sym list.0 ∙ value))

  directory_of : (i : ℕ) → (item t i).kind ≡ list_kind → IsPart t i → IsDirectoryPart (key t i)
  directory_of i list (inl value) = absurd (list_is_no_value (sym list ∙ value.0))
  directory_of i list (inr part) = part.1

  cut_part : (part name : List ℕ) → part ≡ name ++ 47 ∷ [] → take (length part - 1) part ≡ name
  cut_part part name e =
      let n : length part ≡ length name + 1 = ap (λ (l : List ℕ). length l) e ∙ length-append name (47 ∷ []) in
      let size : length part - 1 ≡ length name = omega (arith, n) in
      ap (λ (k : ℕ). take k part) size ∙ (ap (λ (l : List ℕ). take (length name) l) e ∙ take_at name (47 ∷ []) (length name) refl)

  directory_here : (i : ℕ) → (IsSound t → IsDirectoryPart (key t i)) → IsDirectoryPart (key t i)
  directory_here i f =
      let part = key t i in
      let name = take (length part - 1) part in
      record {
        name = name;
        whole = bytes part (name ++ 47 ∷ []) (λ s. let d = f s in d.whole ∙ ap (λ (l : List ℕ). l ++ 47 ∷ []) (sym (cut_part part d.name d.whole)));
        some = less 0 (length name) (λ s. let d = f s in subst (λ (l : List ℕ). 0 < length l) (sym (cut_part part d.name d.whole)) d.some);
        plain = λ has. no (λ s. let d = f s in d.plain (subst (λ (l : List ℕ). Contains l 47) (cut_part part d.name d.whole) has));
      }

  part_here : (i : ℕ) → ((item t i).kind ≡ value_kind) ⊎ ((item t i).kind ≡ list_kind) → (IsSound t → IsPart t i) → IsPart t i
  part_here i (inl value) f = inl (value, λ has. no (λ s. plain_of i value (f s) has))
  part_here i (inr list) f = inr (list, directory_here i (λ s. directory_of i list (f s)))

  top_here : (i : ℕ) → ((item t i).kind ≡ value_kind) ⊎ ((item t i).kind ≡ list_kind) → (IsSound t → IsTop t i) → IsTop t i
  top_here i (inl value) f = absurd (no (λ s. no_top i value (f s)))
  top_here i (inr list) f = inl (list, bytes (key t i) (codes "/") (λ s. top_of i list (f s)))

  under_here : (i : ℕ) (o : Option ℕ) → i < item_count t → (IsSound t → HasParent t i o) → HasParent t i o
  under_here i None here f = top_here i (usual i here) f
  under_here i (Some p) here f = (number _ _ (λ s. (f s).0), part_here i (usual i here) (λ s. (f s).1))

  place_kept : EachItem t (HasPlace t)
  place_kept i here = record {
    has_parent = under_here i (item t i).parent here (λ s. (s place i here).has_parent);
    short = λ name named. most (length name) 65535 (λ s. (s place i here).short name named);
  }

  -- ---- S10

  root_here : (i : ℕ) → i < item_count t → (o : Option (List ℕ)) → name_of t i ≡ o → (IsSound t → HasName t i (codes "/")) → HasName t i (codes "/")
  root_here i here None e f = absurd (no (λ s. none-some _ (sym e ∙ name_of_named t i _ (f s))))
  root_here i here (Some name) e f =
      subst (HasName t i) (bytes name (codes "/") (λ s. same_Some name (codes "/") (sym e ∙ name_of_named t i _ (f s)))) (named_of_name t i name e)

  lists_kept : EachItem t (HasListIfAny t)
  lists_kept i here is = record {
    children_alone = λ k lt. (
      less _ _ (λ s. ((s lists i here is).children_alone k lt).0),
      parent _ _ (λ s. ((s lists i here is).children_alone k lt).1),
    );
    each_child = λ j child.
        find_below (list_length t i) (λ k. listed t i k) j (λ all. no (λ s. let c = (s lists i here is).each_child j child in all c.0 c.1 c.2));
    once = λ k m a b e. number k m (λ s. (s lists i here is).once k m a b e);
    empty_at_root = λ e. root_here i here (name_of t i) refl (λ s. (s lists i here is).empty_at_root e);
  }

  -- ---- S11: there is no table

  locks_kept : EachItem t (HasLocksIfAny t)
  locks_kept i here named = absurd (no (λ s. no_table (item t i).kind (usual i here) (locks_are_a_table t i s named)))

  -- ---- all rules

  pub settled : IsSound t
  settled buckets = buckets_kept
  settled keys = keys_kept
  settled chain = chain_kept
  settled hash = hash_kept
  settled span = span_kept
  settled bloom = bloom_kept
  settled once = once_kept
  settled content = content_kept
  settled place = place_kept
  settled lists = lists_kept
  settled locks = locks_kept

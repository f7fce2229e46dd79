-- What a table reads outside of the bytes in which two files differ is the same in both.
use Rattle.std.proofs.Common.{ℕ, ◌+◌, ◌*◌, ◌-◌, ◌/◌, ◌%◌, ◌^◌, ◌<◌, ◌≤◌, ◌≡◌, ◌⊎◌, ◌∙◌, List, length, get_or, take, drop, ap, ap₂, sym, refl, subst, inl, inr, arith}
use Rattle.std.specs.Prelude.{Some, None, ◌==◌, if◌then◌else◌, slice_range}
use Rattle.std.proofs.lemmas.List.{drop-drop, get_or-drop, get_or-take, take-take}
use Rattle.std.proofs.lemmas.Slice.{between_is}
use Rattle.gv_model.specs.BasicValue.{number_in}
use Rattle.dconf_model.specs.Bytes.{u16_at, u32_at, u8_at}
use Rattle.dconf_model.specs.Table.{Item, Opens, Table, bloom_shift, bloom_word, bloom_words, bucket, bucket_count, bytes_of, item, item_at, item_count, items_start, key, list_kind, value_kind}
use Rattle.gvdb_format.specs.declared.record.ItemRecord.{ItemRecord}
use Rattle.gvdb_alike.specs.NamesAlike.{AreStepsAlike}
use Rattle.gvdb_alike.specs.SameBytes.{HasSameHead, HasSameList, HasSameRecord, HaveSameRecords, IsSameRecord}
use Rattle.gvdb_alike.specs.ValuesAlike.{value_at}
use Rattle.gvdb_alike.specs.Spans.{AreSameOutside, LiesOutside}

module _ (f g : List ℕ) (first last : ℕ) (same : AreSameOutside f g first last) where
  pub same_range : (from to : ℕ) → LiesOutside first last from to → slice_range f from to ≡ slice_range g from to
  same_range from to (inl below) =
      between_is f from to
      ∙ ap (drop from) (sym (take-take to first f below) ∙ ap (take to) same.before ∙ take-take to first g below)
      ∙ sym (between_is g from to)
  same_range from to (inr above) =
      let place : last + 1 + (from - (last + 1)) ≡ from = omega (arith, above) in
      let cut : (h : List ℕ) → drop (from - (last + 1)) (drop (last + 1) h) ≡ drop from h =
      λ h. drop-drop (from - (last + 1)) (last + 1) h ∙ ap (λ n. drop n h) place in
      ap (take (to - from)) (sym (cut f) ∙ ap (drop (from - (last + 1))) same.after ∙ cut g)

  same_u32 : (at : ℕ) → LiesOutside first last at (at + 4) → u32_at f at ≡ u32_at g at
  unfolding u32_at
  same_u32 at out = ap number_in (same_range at (at + 4) out)

  same_u16 : (at : ℕ) → LiesOutside first last at (at + 2) → u16_at f at ≡ u16_at g at
  unfolding u16_at
  same_u16 at out = ap number_in (same_range at (at + 2) out)

  same_u8 : (at : ℕ) → LiesOutside first last at (at + 1) → u8_at f at ≡ u8_at g at
  unfolding u8_at
  same_u8 at (inl below) =
      let lt : at < first = omega (arith, below) in
      sym (get_or-take first f at 0 lt) ∙ ap (λ (l : List ℕ). get_or l at 0) same.before ∙ get_or-take first g at 0 lt
  same_u8 at (inr above) =
      let place : last + 1 + (at - (last + 1)) ≡ at = omega (arith, above) in
      let cut : (h : List ℕ) → get_or (drop (last + 1) h) (at - (last + 1)) 0 ≡ get_or h at 0 =
      λ h. get_or-drop (last + 1) h (at - (last + 1)) 0 ∙ ap (λ n. get_or h n 0) place in
      sym (cut f) ∙ ap (λ (l : List ℕ). get_or l (at - (last + 1)) 0) same.after ∙ cut g

  within : (from to at end : ℕ) → LiesOutside first last from to → from ≤ at → end ≤ to → LiesOutside first last at end
  within from to at end (inl below) low high = inl (omega (arith, below, high))
  within from to at end (inr above) low high = inr (omega (arith, above, low))

  -- the 24 bytes of a record
  pub same_item : (at : ℕ) → LiesOutside first last at (at + 24) → item_at f at ≡ item_at g at
  same_item at out =
      let part : (from to : ℕ) → at ≤ from → to ≤ at + 24 → LiesOutside first last from to = λ from to low high. within at (at + 24) from to out low high in
      rw (
        same_u32 at (part at (at + 4) (omega arith) (omega arith)),
        same_u32 (at + 4) (part (at + 4) (at + 4 + 4) (omega arith) (omega arith)),
        same_u32 (at + 8) (part (at + 8) (at + 8 + 4) (omega arith) (omega arith)),
        same_u16 (at + 12) (part (at + 12) (at + 12 + 2) (omega arith) (omega arith)),
        same_u8 (at + 14) (part (at + 14) (at + 14 + 1) (omega arith) (omega arith)),
        same_u32 (at + 16) (part (at + 16) (at + 16 + 4) (omega arith) (omega arith)),
        same_u32 (at + 20) (part (at + 20) (at + 20 + 4) (omega arith) (omega arith)),
      ) refl

  -- ---- the head of a table that lies at the same place

  module _ (start end : ℕ) where
    abbrev t : Table
    t = record { file = f; start = start; end = end }

    abbrev u : Table
    u = record { file = g; start = start; end = end }

    module _ (out : LiesOutside first last start (items_start t)) where
      word_at : (at : ℕ) → start ≤ at → at + 4 ≤ items_start t → u32_at f at ≡ u32_at g at
      word_at at low high = same_u32 at (within start (items_start t) at (at + 4) out low high)

      head_number : u32_at f start ≡ u32_at g start
      head_number = word_at start (omega arith) (omega arith)

      words : bloom_words t ≡ bloom_words u
      words = ap (λ n. n % 2 ^ 27) head_number

      buckets : bucket_count t ≡ bucket_count u
      buckets = word_at (start + 4) (omega arith) (omega arith)

      items : items_start t ≡ items_start u
      items = ap₂ (λ w b. start + 8 + 4 * w + 4 * b) words buckets

      pub same_head : length f ≡ length g → HasSameHead t u
      same_head len = record {
        len = len;
        counted = ap (λ n. (end - n) / 24) items;
        shift = ap (λ n. n / 2 ^ 27) head_number;
        words = words;
        word = λ k lt. word_at (start + 8 + 4 * k) (omega arith) (omega (arith, lt));
        buckets = buckets;
        bucket = λ k lt.
            word_at (start + 8 + 4 * bloom_words t + 4 * k) (omega arith) (omega (arith, lt))
            ∙ ap (λ w. u32_at g (start + 8 + 4 * w + 4 * k)) words;
      }

      pub same_record : (i : ℕ) → LiesOutside first last (items_start t + 24 * i) (items_start t + 24 * i + 24) → item t i ≡ item u i
      same_record i there = same_item (items_start t + 24 * i) there ∙ ap (λ n. item_at g (n + 24 * i)) items

-- items follow one another up to the table's end
pub items_at : (t : Table) → Opens t → t.end - 24 * item_count t ≡ items_start t
items_at t opens = let fit = opens.items.fit in let whole = opens.items.whole in omega (arith, fit, whole)

-- ---- an item of the same record

module _ (t u : Table) (first last i : ℕ) (same : HasSameRecord t u first last i) where
  same_key : LiesOutside first last (item t i).key_start (item t i).key_end → key t i ≡ key u i
  same_key out =
      same_range t.file u.file first last same.files (item t i).key_start (item t i).key_end out
      ∙ ap (λ (it : Item). slice_range u.file it.key_start it.key_end) same.numbers

  same_bytes : LiesOutside first last (item t i).start (item t i).end → bytes_of t i ≡ bytes_of u i
  same_bytes out =
      same_range t.file u.file first last same.files (item t i).start (item t i).end out
      ∙ ap (λ (it : Item). slice_range u.file it.start it.end) same.numbers

module _ (t u : Table) (first last i : ℕ) (r : ItemRecord) (is : IsSameRecord t u first last i r) where
  pub steps_same : LiesOutside first last r.key_start (r.key_start + r.key_size) → r.key_start + r.key_size ≤ length t.file → AreStepsAlike t u i
  steps_same out within =
      let same = is.same in
      let inside : (item t i).key_end ≤ length t.file = subst (λ (it : Item). it.key_end ≤ length t.file) is.stored within in
      record {
        parent = ap (λ (it : Item). it.parent) same.numbers;
        inside = inside;
        also_inside = subst (λ (it : Item). it.key_end ≤ length u.file) same.numbers (subst (λ n. (item t i).key_end ≤ n) same.head.len inside);
        key = same_key t u first last i same (subst (λ (it : Item). LiesOutside first last it.key_start it.key_end) is.stored out);
      }

  bytes_there : LiesOutside first last r.start r.end → bytes_of t i ≡ bytes_of u i
  bytes_there out = same_bytes t u first last i is.same (subst (λ (it : Item). LiesOutside first last it.start it.end) is.stored out)

  pub value_same : LiesOutside first last r.start r.end → value_at t i ≡ value_at u i
  value_same out =
      ap₂ (λ (kind : ℕ) (bytes : List ℕ). if kind == value_kind then Some bytes else None)
      (ap (λ (it : Item). it.kind) is.same.numbers) (bytes_there out)

  pub value_kept : r.kind ≡ value_kind → HasSameList t u i
  value_kept value = record {
    head = is.same.head;
    numbers = is.same.numbers;
    bytes = inl (sym (ap (λ (it : Item). it.kind) is.stored) ∙ value);
  }

  pub list_kept : r.kind ≡ list_kind → LiesOutside first last r.start r.end → HasSameList t u i
  list_kept list out = record {
    head = is.same.head;
    numbers = is.same.numbers;
    bytes = inr (sym (ap (λ (it : Item). it.kind) is.stored) ∙ list, bytes_there out);
  }

-- ---- where the table lies at one place in both files

pub same_records : (t u : Table) (first last first_item end_item : ℕ) → Opens t → AreSameOutside t.file u.file first last → length t.file ≡ length u.file →
    t.start ≡ u.start → t.end ≡ u.end → LiesOutside first last t.start (items_start t) →
    ((i : ℕ) → i < first_item → items_start t + 24 * i + 24 ≤ first) → ((i : ℕ) → i < item_count t → end_item ≤ i → last < items_start t + 24 * i) →
    HasSameHead t u × HaveSameRecords t u first last first_item end_item
same_records t u first last first_item end_item opens files len start end out before after =
    let at : u ≡ record { file = u.file; start = t.start; end = t.end } = ap₂ (λ (s e : ℕ). let v : Table = record { file = u.file; start = s; end = e } in v) (sym start) (sym end) in
    let head = same_head t.file u.file first last files t.start t.end out len in
    let items : (i : ℕ) → i < item_count t → (i < first_item) ⊎ (end_item ≤ i) → HasSameRecord t (record { file = u.file; start = t.start; end = t.end }) first last i =
    λ i here lies. record {
      head = head;
      files = files;
      numbers = same_record t.file u.file first last files t.start t.end out i (elim lies [ inl lt ↦ inl (before i lt) | inr ge ↦ inr (after i here ge) ]);
    } in
    subst (λ (v : Table). HasSameHead t v × HaveSameRecords t v first last first_item end_item) (sym at) (head, items)

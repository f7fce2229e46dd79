-- A table that is written lays its entries out.
use Rattle.std.proofs.Common.{◌≡◌, ◌<◌, ◌≤◌, ◌+◌, ◌-◌, ◌*◌, ◌/◌, ◌%◌, ◌^◌, ◌↔◌, ℕ, List, length, get_or, Option, Some, None, refl, sym, ap, ◌∙◌, subst, arith, inr}
use Rattle.std.specs.Prelude.{slice_range}
use Rattle.std.specs.Int.{IsBitSet}
use Rattle.std.proofs.Math.Nat.{mod-lt}
use Rattle.dconf_model.specs.Bytes.{hash_of, u32_at}
use Rattle.dconf_model.specs.Table.{Table, Item, item, bloom_words, bloom_shift, bloom_word, bucket, IsValidPointer, HasBytes, alignment_of, bytes_of}
use Rattle.dconf_model.specs.Search.{PassesBloom}
use Rattle.dconf_model.specs.Sound.{list_length}
use Rattle.dconf_model.specs.Entries.{Entries, IsSpelled, AreEntries, AreFirsts, bucket_of, IsLaidItem, IsLaidOut, Children, IsLaidList}
use Rattle.dconf_model.specs.TableBytes.{OccursAt, ItemRecord, words_bytes}
use Rattle.dconf_model.specs.TableEncoding.{EncodesItem, HasBits, IsWritten, no_row}
use Rattle.dconf_model.proofs.Occurrences.{range_length, occurs_inside, read_range, read_u32, read_piece}
use Rattle.dconf_model.proofs.TableNumbers.{IsSmallParent, item_of_row, words_are, shift_is, word_is, buckets_are, bucket_is, count_is, item_is}
use Rattle.gv_model.specs.Encode.{number_bytes}
use Rattle.gv_model.proofs.NumberBytes.{length-number_bytes}

pub same_firsts : (count groups : ℕ) (group f g : ℕ → ℕ) → ((b : ℕ) → b < groups → g b ≡ f b) → AreFirsts count groups group f → AreFirsts count groups group g
same_firsts count groups group f g same a = record {
  within = λ b l. subst (λ (n : ℕ). n ≤ count) (sym (same b l)) (a.within b l);
  lesser = λ b i l here. subst (λ (n : ℕ). (i < n) ↔ (group i < b)) (sym (same b l)) (a.lesser b i l here);
}

small_parent : (e : Entries) (i : ℕ) → e.count < 4294967295 → (o : Option ℕ) → IsSpelled e i o → IsSmallParent o
small_parent e i few None s = tt
small_parent e i few (Some p) s = let l = s.0 in omega (arith, few, l)

-- item i is its row
pub row_at : (t : Table) (e : Entries) (words buckets : List ℕ) (rows : List ItemRecord) (i : ℕ) → IsWritten t e words buckets rows → AreEntries e → i < e.count → item t i ≡ item_of_row (get_or rows i no_row)
row_at t e words buckets rows i w are here =
    let c = w.counted in
    let small = subst (λ (o : Option ℕ). IsSmallParent o) (sym (w.items i here).parent) (small_parent e i w.few (e.entry i).parent (are.each i here).spelled) in
    item_is t words buckets rows w.table i no_row (omega (arith, here, c)) small

passes_by : (t : Table) (words : List ℕ) (hash : ℕ) → bloom_words t ≡ length words → bloom_shift t ≡ 5 → ((k : ℕ) → k < length words → bloom_word t k ≡ get_or words k 0) → 0 < length words → HasBits words hash → PassesBloom t hash
passes_by t words hash n shift each some bits =
    let at : bloom_word t (hash / 32 % bloom_words t) ≡ get_or words (hash / 32 % length words) 0 =
    ap (λ (m : ℕ). bloom_word t (hash / 32 % m)) n ∙ each (hash / 32 % length words) (mod-lt (hash / 32) {m = length words} some) in
    inr (
      subst (λ (w : ℕ). IsBitSet w (hash % 32)) (sym at) bits.first,
      subst (λ (s : ℕ). IsBitSet (bloom_word t (hash / 32 % bloom_words t)) (hash / 2 ^ s % 32)) (sym shift)
          (subst (λ (w : ℕ). IsBitSet w (hash / 32 % 32)) (sym at) bits.second),
    )

laid_item_of : (t : Table) (e : Entries) (i : ℕ) (r : ItemRecord) → item t i ≡ item_of_row r → EncodesItem t.file (e.entry i) r → PassesBloom t (hash_of (e.entry i).name) → IsLaidItem t e i
laid_item_of t e i r is s passes =
    let size = s.size in
    let inside = occurs_inside t.file r.key_start (e.entry i).key s.key in
    let kind : (item t i).kind ≡ (e.entry i).kind = ap (λ (x : Item). x.kind) is ∙ s.of_kind in
    let valid : HasBytes t i =
    subst (λ (k : ℕ). IsValidPointer t.file (alignment_of k) (item t i).start (item t i).end) (sym kind)
    (subst (λ (x : Item). IsValidPointer t.file (alignment_of (e.entry i).kind) x.start x.end) (sym is) s.valid) in
    record {
      hash = ap (λ (x : Item). x.hash) is ∙ s.hash;
      parent = ap (λ (x : Item). x.parent) is ∙ s.parent;
      key_inside = subst (λ (x : Item). x.key_end ≤ length t.file) (sym is) (omega (arith, size, inside));
      key_is = ap (λ (x : Item). slice_range t.file x.key_start x.key_end) is ∙ read_range t.file r.key_start r.key_size (e.entry i).key (sym size) s.key;
      of_kind = kind;
      valid = valid;
      whole = λ list. ap (λ (n : ℕ). n % 4) (range_length t.file (item t i).start (item t i).end valid.ordered valid.inside ∙ ap (λ (x : Item). x.end - x.start) is) ∙ s.whole list;
      passes = passes;
    }

pub written_is_laid : (t : Table) (e : Entries) (words buckets : List ℕ) (rows : List ItemRecord) → IsWritten t e words buckets rows → AreEntries e → 0 < length words → IsLaidOut t e
written_is_laid t e words buckets rows w are some = record {
  counted = count_is t words buckets rows w.table ∙ w.counted;
  bucketed = buckets_are t words buckets rows w.table ∙ w.bucketed;
  firsts = let b = w.bucketed in
      same_firsts e.count e.count (bucket_of e) (λ g. get_or buckets g 0) (bucket t) (λ g l. bucket_is t words buckets rows w.table g (omega (arith, l, b))) w.firsts;
  items = λ i here. laid_item_of t e i (get_or rows i no_row) (row_at t e words buckets rows i w are here) (w.items i here)
      (passes_by t words (hash_of (e.entry i).name) (words_are t words buckets rows w.table) (shift_is t words buckets rows w.table) (word_is t words buckets rows w.table) some (w.bits i here));
}

-- ---- contents

-- a value that is where its item says is the item's
pub bytes_are : (t : Table) (e : Entries) (words buckets : List ℕ) (rows : List ItemRecord) (i : ℕ) (value : List ℕ) → IsWritten t e words buckets rows → AreEntries e
    → i < e.count → OccursAt t.file (get_or rows i no_row).start value → (get_or rows i no_row).end ≡ (get_or rows i no_row).start + length value → bytes_of t i ≡ value
bytes_are t e words buckets rows i value w are here s end =
    let r = get_or rows i no_row in
    ap (λ (x : Item). slice_range t.file x.start x.end) (row_at t e words buckets rows i w are here)
    ∙ (ap (λ (n : ℕ). slice_range t.file r.start n) end ∙ read_range t.file r.start (length value) value refl s)

quarter : (n a b : ℕ) → a ≤ b → (n + 4 * b - (n + 4 * a)) / 4 ≡ b - a
quarter n a b le = omega (arith, le)

-- where all children come one after another, the list of each item is its part of them
pub list_is_laid : (t : Table) (e : Entries) (c : Children) (words buckets : List ℕ) (rows : List ItemRecord) (base i : ℕ) (all : List ℕ)
    → IsWritten t e words buckets rows → AreEntries e → i < e.count → OccursAt t.file base (words_bytes all) → length all ≡ c.count
    → ((k : ℕ) → k < c.count → get_or all k 0 ≡ c.child k) → c.first i ≤ c.first (i + 1) → c.first (i + 1) ≤ c.count
    → (get_or rows i no_row).start ≡ base + 4 * c.first i → (get_or rows i no_row).end ≡ base + 4 * c.first (i + 1) → IsLaidList t c i
list_is_laid t e c words buckets rows base i all w are here s n each rising within start end =
    let is = row_at t e words buckets rows i w are here in
    let from : (item t i).start ≡ base + 4 * c.first i = ap (λ (x : Item). x.start) is ∙ start in
    let to : (item t i).end ≡ base + 4 * c.first (i + 1) = ap (λ (x : Item). x.end) is ∙ end in
    let size : list_length t i ≡ c.first (i + 1) - c.first i =
    ap (λ (m : ℕ). (m - (item t i).start) / 4) to ∙ (ap (λ (m : ℕ). (base + 4 * c.first (i + 1) - m) / 4) from ∙ quarter base (c.first i) (c.first (i + 1)) rising) in
    record {
      size = size;
      numbers = λ k l.
          let there : c.first i + k < c.count = omega (arith, size, l, rising, within) in
          let at : (item t i).start + 4 * k ≡ base + 4 * (c.first i + k) = omega (arith, from) in
          ap (λ (m : ℕ). u32_at t.file m) at
          ∙ (read_u32 t.file (base + 4 * (c.first i + k)) (get_or all (c.first i + k) 0)
          (read_piece (number_bytes 4) 4 0 (length-number_bytes 4) all (c.first i + k) (omega (arith, there, n)) t.file base s)
          ∙ each (c.first i + k) there);
    }

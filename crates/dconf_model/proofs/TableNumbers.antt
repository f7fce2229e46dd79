-- A table whose bytes occur in a file has the numbers that it was written with.
use Rattle.std.proofs.Common.{◌≡◌, ◌<◌, ◌+◌, ◌-◌, ◌*◌, ◌/◌, ◌%◌, ◌^◌, ℕ, List, [], ◌∷◌, ◌++◌, length, get_or, Bool, cond, eqb, Option, Some, None, refl, ap, ◌∙◌, arith, length-append, ne_eqb}
use Rattle.gv_model.specs.Encode.{number_bytes}
use Rattle.gv_model.proofs.NumberBytes.{length-number_bytes}
use Rattle.dconf_model.specs.Bytes.{u32_at, u16_at}
use Rattle.dconf_model.specs.Table.{Table, Item, item, item_at, item_count, items_start, bloom_words, bloom_shift, bloom_word, bucket, bucket_count, HasItems}
use Rattle.dconf_model.specs.TableBytes.{OccursAt, ItemRecord, parent_number, record_bytes, records_bytes, words_bytes, head_bytes}
use Rattle.dconf_model.specs.TableEncoding.{EncodesTable}
use Rattle.dconf_model.proofs.Occurrences.{occurs_at, occurs_prefix, occurs_next, read_u32, read_u16, read_u8, read_piece, length-pieces}

-- ---- an item

pub length-row : (r : ItemRecord) → length (record_bytes r) ≡ 24
length-row r =
    let a = length-number_bytes 4 r.hash in
    let b = length-number_bytes 4 (parent_number r.parent) in
    let c = length-number_bytes 4 r.key_start in
    let d = length-number_bytes 2 r.key_size in
    let e = length-number_bytes 4 r.start in
    let f = length-number_bytes 4 r.end in
    grind (arith, length-append, a, b, c, d, e, f)

-- a parent that is no item's number stands for none
abbrev pub IsSmallParent : Option ℕ → Type 0
IsSmallParent None = Unit {0}
IsSmallParent (Some p) = p < 4294967295

read_parent : (n : ℕ) (o : Option ℕ) → IsSmallParent o → n ≡ parent_number o → cond (eqb n 4294967295) None (Some n) ≡ o
read_parent n None small e = ap (λ (m : ℕ). cond (eqb m 4294967295) None (Some m)) e
read_parent n (Some p) small e =
    ap (λ (m : ℕ). cond (eqb m 4294967295) None (Some m)) e
    ∙ ap (λ (b : Bool). cond b None (Some p)) (ne_eqb p 4294967295 (omega (arith, small)))

-- what stands for an item
abbrev pub item_of_row : ItemRecord → Item
item_of_row r = record {
  hash = r.hash;
  parent = r.parent;
  key_start = r.key_start;
  key_end = r.key_start + r.key_size;
  kind = r.kind;
  start = r.start;
  end = r.end;
}

same_item : (a b c d e f g h i : ℕ) (o p : Option ℕ) → a ≡ b → o ≡ p → c ≡ d → e ≡ f → g ≡ h → (j k l m : ℕ) → j ≡ k → l ≡ m
    → (let left : Item = record { hash = a; parent = o; key_start = c; key_end = e; kind = g; start = j; end = l } in left) ≡ record
    { hash = b; parent = p; key_start = d; key_end = f; kind = h; start = k; end = m }
same_item a b c d e f g h i o p x1 x2 x3 x4 x5 j k l m x6 x7 = cc

pub read_item : (file : List ℕ) (at : ℕ) (r : ItemRecord) → IsSmallParent r.parent → OccursAt file at (record_bytes r) → item_at file at ≡ item_of_row r
read_item file at r small s =
    let s1 = occurs_next file at 4 _ _ (length-number_bytes 4 r.hash) s in
    let s2 = occurs_at file (at + 4 + 4) (at + 8) _ (omega arith) (occurs_next file (at + 4) 4 _ _ (length-number_bytes 4 (parent_number r.parent)) s1) in
    let s3 = occurs_at file (at + 8 + 4) (at + 12) _ (omega arith) (occurs_next file (at + 8) 4 _ _ (length-number_bytes 4 r.key_start) s2) in
    let s4 = occurs_at file (at + 12 + 2) (at + 14) _ (omega arith) (occurs_next file (at + 12) 2 _ _ (length-number_bytes 2 r.key_size) s3) in
    let s5 = occurs_at file (at + 14 + 2) (at + 16) _ (omega arith) (occurs_next file (at + 14) 2 (r.kind ∷ 0 ∷ []) _ refl s4) in
    let s6 = occurs_at file (at + 16 + 4) (at + 20) _ (omega arith) (occurs_next file (at + 16) 4 _ _ (length-number_bytes 4 r.start) s5) in
    let hash = read_u32 file at r.hash (occurs_prefix file at _ _ s) in
    let parent = read_u32 file (at + 4) (parent_number r.parent) (occurs_prefix file (at + 4) _ _ s1) in
    let start = read_u32 file (at + 8) r.key_start (occurs_prefix file (at + 8) _ _ s2) in
    let size = read_u16 file (at + 12) r.key_size (occurs_prefix file (at + 12) _ _ s3) in
    let kind = read_u8 file (at + 14) r.kind (0 ∷ []) (occurs_prefix file (at + 14) (r.kind ∷ 0 ∷ []) _ s4) in
    let from = read_u32 file (at + 16) r.start (occurs_prefix file (at + 16) _ _ s5) in
    let to = read_u32 file (at + 20) r.end s6 in
    same_item _ _ _ _ _ _ _ _ 0 _ _ hash (read_parent _ r.parent small parent) start (ap (λ (n : ℕ). n + u16_at file (at + 12)) start ∙ ap (λ (n : ℕ). r.key_start + n) size) kind _ _ _ _ from to

-- ---- a table

low_bits : (n : ℕ) → n < 134217728 → (n + 671088640) % 134217728 ≡ n
low_bits n few = omega (arith, few)

high_bits : (n : ℕ) → n < 134217728 → (n + 671088640) / 134217728 ≡ 5
high_bits n few = omega (arith, few)

first_number : (t : Table) (words buckets : List ℕ) (rows : List ItemRecord) → EncodesTable t words buckets rows → u32_at t.file t.start ≡ length words + 5 * 2 ^ 27
first_number t words buckets rows s =
    read_u32 t.file t.start _ (occurs_prefix t.file t.start _ _ (occurs_prefix t.file t.start _ _ s.bytes))

pub words_are : (t : Table) (words buckets : List ℕ) (rows : List ItemRecord) → EncodesTable t words buckets rows → bloom_words t ≡ length words
words_are t words buckets rows s = ap (λ (n : ℕ). n % 2 ^ 27) (first_number t words buckets rows s) ∙ low_bits (length words) s.few

pub shift_is : (t : Table) (words buckets : List ℕ) (rows : List ItemRecord) → EncodesTable t words buckets rows → bloom_shift t ≡ 5
shift_is t words buckets rows s = ap (λ (n : ℕ). n / 2 ^ 27) (first_number t words buckets rows s) ∙ high_bits (length words) s.few

pub buckets_are : (t : Table) (words buckets : List ℕ) (rows : List ItemRecord) → EncodesTable t words buckets rows → bucket_count t ≡ length buckets
buckets_are t words buckets rows s =
    read_u32 t.file (t.start + 4) (length buckets)
    (occurs_next t.file t.start 4 _ _ (length-number_bytes 4 (length words + 5 * 2 ^ 27)) (occurs_prefix t.file t.start _ _ s.bytes))

after_head : (t : Table) (words buckets : List ℕ) (rows : List ItemRecord) → EncodesTable t words buckets rows → OccursAt t.file (t.start + 8) (words_bytes words ++ (words_bytes buckets ++ records_bytes rows))
after_head t words buckets rows s =
    let a = length-number_bytes 4 (length words + 5 * 2 ^ 27) in
    let b = length-number_bytes 4 (length buckets) in
    let n : length (head_bytes (length words) (length buckets)) ≡ 8 = grind (arith, length-append, a, b) in
    occurs_next t.file t.start 8 _ _ n s.bytes

after_words : (t : Table) (words buckets : List ℕ) (rows : List ItemRecord) → EncodesTable t words buckets rows → OccursAt t.file (t.start + 8 + 4 * length words) (words_bytes buckets ++ records_bytes rows)
after_words t words buckets rows s =
    let n = length-pieces (number_bytes 4) 4 (length-number_bytes 4) words in
    occurs_next t.file (t.start + 8) (4 * length words) _ _ n (after_head t words buckets rows s)

after_buckets : (t : Table) (words buckets : List ℕ) (rows : List ItemRecord) → EncodesTable t words buckets rows → OccursAt t.file (t.start + 8 + 4 * length words + 4 * length buckets) (records_bytes rows)
after_buckets t words buckets rows s =
    let n = length-pieces (number_bytes 4) 4 (length-number_bytes 4) buckets in
    occurs_next t.file (t.start + 8 + 4 * length words) (4 * length buckets) _ _ n (after_words t words buckets rows s)

pub word_is : (t : Table) (words buckets : List ℕ) (rows : List ItemRecord) → EncodesTable t words buckets rows → (k : ℕ) → k < length words → bloom_word t k ≡ get_or words k 0
word_is t words buckets rows s k l =
    read_u32 t.file (t.start + 8 + 4 * k) (get_or words k 0)
    (read_piece (number_bytes 4) 4 0 (length-number_bytes 4) words k l t.file (t.start + 8) (occurs_prefix t.file _ _ _ (after_head t words buckets rows s)))

pub bucket_is : (t : Table) (words buckets : List ℕ) (rows : List ItemRecord) → EncodesTable t words buckets rows → (k : ℕ) → k < length buckets → bucket t k ≡ get_or buckets k 0
bucket_is t words buckets rows s k l =
    let w = words_are t words buckets rows s in
    ap (λ (n : ℕ). u32_at t.file (t.start + 8 + 4 * n + 4 * k)) w
    ∙ read_u32 t.file (t.start + 8 + 4 * length words + 4 * k) (get_or buckets k 0)
    (read_piece (number_bytes 4) 4 0 (length-number_bytes 4) buckets k l t.file (t.start + 8 + 4 * length words) (occurs_prefix t.file _ _ _ (after_words t words buckets rows s)))

pub start_is : (t : Table) (words buckets : List ℕ) (rows : List ItemRecord) → EncodesTable t words buckets rows → items_start t ≡ t.start + 8 + 4 * length words + 4 * length buckets
start_is t words buckets rows s =
    let w = words_are t words buckets rows s in
    let b = buckets_are t words buckets rows s in
    ap (λ (n : ℕ). t.start + 8 + 4 * n + 4 * bucket_count t) w ∙ ap (λ (n : ℕ). t.start + 8 + 4 * length words + 4 * n) b

rest_is : (start a b n end : ℕ) → end ≡ start + (8 + 4 * a + 4 * b + 24 * n) → end - (start + 8 + 4 * a + 4 * b) ≡ 24 * n
rest_is start a b n end e = omega (arith, e)

pub count_is : (t : Table) (words buckets : List ℕ) (rows : List ItemRecord) → EncodesTable t words buckets rows → item_count t ≡ length rows
count_is t words buckets rows s =
    let r = rest_is t.start (length words) (length buckets) (length rows) t.end s.end_is in
    ap (λ (n : ℕ). (t.end - n) / 24) (start_is t words buckets rows s) ∙ (ap (λ (n : ℕ). n / 24) r ∙ whole_24 (length rows))
  where
    whole_24 : (n : ℕ) → 24 * n / 24 ≡ n
    whole_24 n = omega arith

pub has_items : (t : Table) (words buckets : List ℕ) (rows : List ItemRecord) → EncodesTable t words buckets rows → HasItems t
has_items t words buckets rows s =
    let r = rest_is t.start (length words) (length buckets) (length rows) t.end s.end_is in
    let at = start_is t words buckets rows s in
    let e = s.end_is in
    record {
      fit = omega (arith, at, e);
      whole = ap (λ (n : ℕ). (t.end - n) % 24) at ∙ (ap (λ (n : ℕ). n % 24) r ∙ whole_24 (length rows));
    }
  where
    whole_24 : (n : ℕ) → 24 * n % 24 ≡ 0
    whole_24 n = omega arith

pub item_is : (t : Table) (words buckets : List ℕ) (rows : List ItemRecord) → EncodesTable t words buckets rows → (i : ℕ) (d : ItemRecord) → i < length rows → IsSmallParent (get_or rows i d).parent → item t i ≡ item_of_row (get_or rows i d)
item_is t words buckets rows s i d l small =
    ap (λ (n : ℕ). item_at t.file (n + 24 * i)) (start_is t words buckets rows s)
    ∙ read_item t.file (t.start + 8 + 4 * length words + 4 * length buckets + 24 * i) (get_or rows i d) small
    (read_piece record_bytes 24 d length-row rows i l t.file (t.start + 8 + 4 * length words + 4 * length buckets) (after_buckets t words buckets rows s))

-- A table that occurs in a file with its keys, and whose contents are where its rows say, is written.
use Rattle.std.proofs.Common.{rules, arith, ◌≡◌, ◌<◌, ◌≤◌, ◌+◌, ◌-◌, ◌*◌, ◌/◌, ◌%◌, ◌^◌, ℕ, List, ◌++◌, length, get_or, replicate, sym, ap, ◌∙◌, subst, length-append, zero, suc, [], ◌∷◌, drop, refl}
use Rattle.std.proofs.lemmas.Grind.{common_steps}
use Rattle.std.proofs.Math.ListN.{get_or-map}
use Rattle.std.proofs.lemmas.List.{length-map, length-replicate}
use Rattle.gv_model.specs.Encode.{number_bytes}
use Rattle.gv_model.specs.Layout.{round_up}
use Rattle.gv_model.proofs.NumberBytes.{length-number_bytes}
use Rattle.gv_model.specs.Limits.{limit}
use Rattle.dconf_model.specs.Bytes.{hash_of}
use Rattle.dconf_model.specs.Table.{Table as Place, IsValidPointer, alignment_of, list_kind}
use Rattle.dconf_model.specs.Entries.{AreEntries}
use Rattle.dconf_model.specs.Plans.{size_of_table, keys_end}
use Rattle.dconf_model.specs.TableBytes.{OccursAt, ItemRecord, words_bytes, table_bytes, table_size}
use Rattle.dconf_model.specs.TableEncoding.{EncodesItem, HasBits, IsWritten, no_row}
use Rattle.dconf_model.proofs.Occurrences.{occurs_at, occurs_last, occurs_prefix, occurs_next, length-pieces, occurs_suffix}
use Rattle.dconf_model.proofs.TableNumbers.{length-row}
use Rattle.dconf_model.proofs.PlanEnds.{not_below}
use Rattle.gvdb_format.specs.declared.record.ItemRecord.{ItemRecord as Numbers}
use Rattle.gvdb_maps.specs.declared.names.Named.{Named}
use Rattle.gvdb_maps.specs.declared.table.TablePlan.{TablePlan}
use Rattle.gvdb_format.specs.ItemRecords.{record_of}
use Rattle.gvdb_maps.specs.PlanWords.{entries_of, named, name_at, kind_at}
use Rattle.gvdb_maps.specs.LayoutParts.{AreRecords, IsRecordOf, row, no_numbers}
use Rattle.gvdb_maps.specs.WrittenParts.{HaveFourBytes, HaveBits, HasTable, keys_bytes, records_of}
use Rattle.gvdb_values.specs.WrittenValues.{with_padding}
use Rattle.gvdb_maps.specs.PlannedTables.{AreItems}

abbrev pub key_of : Named → List ℕ
key_of n = drop n.from n.name.now

-- the keys after the first end as those of the rest do
after_first : (n : Named) (items : List Named) (at i : ℕ) → keys_end (entries_of (n ∷ items)) at (suc i) ≡ keys_end (entries_of items) (at + length (key_of n)) i
after_first n items at zero = refl
after_first n items at (suc i) = ap (λ (m : ℕ). m + length (key_of (named items i))) (after_first n items at i)

-- each key is where those before it end
pub key_occurs : (items : List Named) (i : ℕ) (file : List ℕ) (at : ℕ) → i < length items → OccursAt file at (keys_bytes items) → OccursAt file (keys_end (entries_of items) at i) (key_of (named items i))
key_occurs [] i file at here s = absurd (omega (arith, here))
key_occurs (n ∷ items) zero file at here s = occurs_prefix file at (key_of n) (keys_bytes items) s
key_occurs (n ∷ items) (suc i) file at here s =
    occurs_at file (keys_end (entries_of items) (at + length (key_of n)) i) (keys_end (entries_of (n ∷ items)) at (suc i)) (key_of (named items i)) (sym (after_first n items at i))
    (key_occurs items i file (at + length (key_of n)) (omega (arith, here)) (occurs_suffix file at (key_of n) (keys_bytes items) s))

-- they are as long as their ends say
pub keys_length : (items : List Named) (at : ℕ) → at + length (keys_bytes items) ≡ keys_end (entries_of items) at (length items)
keys_length [] at = let e : at + 0 ≡ at = omega arith in e
keys_length (n ∷ items) at =
    let both = length-append (key_of n) (keys_bytes items) in
    let rest = keys_length items (at + length (key_of n)) in
    let more = after_first n items at (length items) in
    omega (arith, both, rest, more)

-- ---- how long it is

pub length-padded_4 : (file : List ℕ) → length (with_padding 4 file) ≡ round_up 4 (length file)
length-padded_4 file = grind (arith, common_steps, replicate, length-append, length-replicate, not_below)

pub length-words : (words : List ℕ) → length (words_bytes words) ≡ 4 * length words
length-words words = length-pieces (number_bytes 4) 4 (length-number_bytes 4) words

length-table : (words buckets : List ℕ) (rows : List ItemRecord) → length (table_bytes words buckets rows) ≡ table_size (length words) (length buckets) (length rows)
length-table words buckets rows = grind (arith, common_steps, length-append, length-number_bytes, length-pieces, length-row, length-words)

-- as many words, buckets and rows as its items need
sized : (a b c n : ℕ) → a ≡ (n + 15) / 16 → b ≡ n → c ≡ n → table_size a b c ≡ size_of_table n
sized a b c n e f g = omega (arith, e, f, g)

module _ (t : TablePlan) (rows : List Numbers) (keys_at : ℕ) (are : AreItems t) (numbers : AreRecords t.items.items keys_at rows) where
  as_many_rows : length (records_of rows) ≡ length t.items.items
  as_many_rows = length-map rows record_of ∙ numbers.counted

  size_is : (words : List ℕ) → length words ≡ (length t.items.items + 15) / 16 → table_size (length words) (length t.buckets.items) (length (records_of rows)) ≡ size_of_table (length t.items.items)
  size_is words e = sized (length words) (length t.buckets.items) (length (records_of rows)) (length t.items.items) e are.bucketed as_many_rows

  -- its keys end where the file does
  pub table_length : (before after : List ℕ) → HasTable t rows before after → length after ≡ keys_end (entries_of t.items.items) (round_up 4 (length before) + size_of_table (length t.items.items)) (length t.items.items)
  table_length before after has = grind (arith, common_steps, length-append, keys_length, length-padded_4, length-table, size_is)

  pub table_occurs : (before after : List ℕ) (has : HasTable t rows before after) → OccursAt after (round_up 4 (length before)) (table_bytes has.words t.buckets.items (records_of rows) ++ keys_bytes t.items.items)
  table_occurs before after has = search (rules, arith, occurs_at, occurs_last, length-padded_4)

-- ---- what the writing functions require of it

pub few_items : (at n m : ℕ) → at + size_of_table n ≤ m → m ≤ limit → 28 * n ≤ limit
few_items at n m le within = omega (arith, le, within)

pub have_buckets : (t : TablePlan) → AreItems t → 28 * length t.items.items ≤ limit → HaveFourBytes t.buckets.items
have_buckets t are few i here = grind (arith, common_steps)

pub key_begins : (items : List Named) → AreEntries (entries_of items) → (i : ℕ) → i < length items → (named items i).from ≤ length (name_at items i)
key_begins items are i here = grind (arith, common_steps)

-- ---- it is written

-- the content of an item of the kind is where the numbers say
pub record HasContentAt (file : List ℕ) (kind : ℕ) (r : Numbers) : Type 0 where
  pub valid : IsValidPointer file (alignment_of kind) r.start r.end
  pub whole : kind ≡ list_kind → (r.end - r.start) % 4 ≡ 0

pub row_is : (rows : List Numbers) (i : ℕ) → get_or (records_of rows) i no_row ≡ record_of (row rows i)
row_is rows i = get_or-map record_of rows i no_numbers

encodes_item : (items : List Named) (file : List ℕ) (keys_at i : ℕ) (r : Numbers) → (named items i).hash ≡ hash_of (name_at items i) → IsRecordOf items keys_at i r
    → i < length items → OccursAt file keys_at (keys_bytes items) → HasContentAt file (kind_at items i) r → EncodesItem file ((entries_of items).entry i) (record_of r)
encodes_item items file keys_at i r hash is here keys content = record {
  hash = is.hash ∙ hash;
  parent = is.parent;
  key = occurs_at file (keys_end (entries_of items) keys_at i) r.key_start ((entries_of items).entry i).key (sym is.key_start) (key_occurs items i file keys_at here keys);
  size = is.key_size;
  of_kind = is.of_kind;
  valid = content.valid;
  whole = content.whole;
}

few_words : (n words : ℕ) → 28 * n ≤ limit → words ≡ (n + 15) / 16 → words < 2 ^ 27
few_words n words few e = omega (arith, few, e)

module _ (t : TablePlan) (rows : List Numbers) (file : List ℕ) (at : ℕ) (are : AreItems t) (numbers : AreRecords t.items.items (at + size_of_table (length t.items.items)) rows) (few : 28 * length t.items.items ≤ limit) where
  abbrev pub place : Place
  place = record { file = file; start = at; end = at + size_of_table (length t.items.items) }

  pub is_written : (words : List ℕ) → length words ≡ (length t.items.items + 15) / 16 → HaveBits words t.items.items
      → OccursAt file at (table_bytes words t.buckets.items (records_of rows) ++ keys_bytes t.items.items)
      → ((i : ℕ) → i < length t.items.items → HasContentAt file (kind_at t.items.items i) (row rows i))
      → IsWritten place (entries_of t.items.items) words t.buckets.items (records_of rows)
  is_written words counted bits occurs contents =
      let table = table_bytes words t.buckets.items (records_of rows) in
      let keys_at = at + size_of_table (length t.items.items) in
      let size = size_is t rows keys_at are numbers words counted in
      let keys = occurs_next file at (size_of_table (length t.items.items)) table (keys_bytes t.items.items) (length-table words t.buckets.items (records_of rows) ∙ size) occurs in
      record {
        table = record {
          bytes = occurs_prefix file at table (keys_bytes t.items.items) occurs;
          end_is = ap (λ (n : ℕ). at + n) (sym size);
          few = few_words (length t.items.items) (length words) few counted;
        };
        bucketed = are.bucketed;
        counted = as_many_rows t rows keys_at are numbers;
        few = omega (arith, few);
        firsts = are.firsts;
        items = λ i here.
            subst (λ (r : ItemRecord). EncodesItem file ((entries_of t.items.items).entry i) r) (sym (row_is rows i))
            (encodes_item t.items.items file keys_at i (row rows i) (are.hashes i here) (numbers.each i here) here keys (contents i here));
        bits = λ i here. subst (λ (h : ℕ). HasBits words h) (are.hashes i here) (bits i here);
      }

-- What the writing functions append to a file.
use Rattle.std.specs.Prelude.{ℕ, ◌+◌, ◌*◌, ◌/◌, ◌≤◌, ◌<◌, ◌≡◌, ◌⊎◌, List, ◌++◌, length, map, drop, slice_index, slice_index_or}
use Rattle.std.specs.List.{flat_map}
use Rattle.gv_model.specs.Limits.{limit}
use Rattle.dconf_model.specs.TableBytes.{ItemRecord, records_bytes, table_bytes}
use Rattle.dconf_model.specs.TableEncoding.{HasBits}
use Rattle.gvdb_format.specs.declared.record.ItemRecord.{ItemRecord as Numbers}
use Rattle.gvdb_maps.specs.declared.contents.Contents.{Contents}
use Rattle.gvdb_maps.specs.declared.names.Named.{Named}
use Rattle.gvdb_maps.specs.declared.table.TablePlan.{TablePlan}
use Rattle.gvdb_format.specs.ItemRecords.{record_of}
use Rattle.gvdb_maps.specs.LayoutParts.{ArePointed, CanPoint, all_keys_end, AreRecords, CanBeLaid}
use Rattle.gvdb_values.specs.WrittenValues.{with_padding}
use Rattle.gvdb_maps.specs.PlanWords.{no_name}

-- each has four bytes
abbrev pub HaveFourBytes : List ℕ → Type 0
HaveFourBytes numbers = (i : ℕ) → i < length numbers → slice_index numbers i ≤ limit

abbrev pub HaveNumbers : List (ℕ × ℕ) → Type 0
HaveNumbers members = (i : ℕ) → i < length members → (slice_index_or members i (0, 0)).1 ≤ limit

-- each key begins in its name
abbrev pub HaveKeys : List Named → Type 0
HaveKeys items = (i : ℕ) → i < length items → (slice_index_or items i no_name).from ≤ length (slice_index_or items i no_name).name.now

-- the bits of each hash are set
abbrev pub HaveBits : List ℕ → List Named → Type 0
HaveBits words items = (i : ℕ) → i < length items → HasBits words (slice_index_or items i no_name).hash

abbrev pub keys_bytes : List Named → List ℕ
keys_bytes items = flat_map (λ n. drop n.from n.name.now) items

abbrev pub records_of : List Numbers → List ItemRecord
records_of rows = map record_of rows

-- the members of groups, without their groups
abbrev pub numbers_of : List (ℕ × ℕ) → List ℕ
numbers_of members = map (λ m. m.1) members

-- the items of a table and its buckets fit in four bytes, its keys in a file, and the content of each item is known
pub record CanBeWritten (table : TablePlan) (keys_at : ℕ) (c : Contents) : Type 0 where
  pub few : 28 * length table.items.items ≤ limit
  pub buckets : HaveFourBytes table.buckets.items
  pub bucketed : length table.buckets.items ≡ length table.items.items
  pub items : CanBeLaid table.items.items
  pub keys : all_keys_end keys_at table.items.items ≤ limit
  pub contents : CanPoint table.items.items c

-- the records of items, whose keys and contents are there
pub record AreRowsOf (items : List Named) (keys_at : ℕ) (c : Contents) (rows : List Numbers) : Type 0 where
  pub are : AreRecords items keys_at rows
  pub pointed : ArePointed items c rows

-- they come after what was there
pub record HasRecords (items : List Named) (keys_at : ℕ) (c : Contents) (before after : List ℕ) : Type 0 where
  pub rows : List Numbers
  pub are : AreRowsOf items keys_at c rows
  pub bytes : after ≡ before ++ records_bytes (records_of rows)

-- the bytes of a table come after what was there, and its keys after them
pub record HasTable (table : TablePlan) (rows : List Numbers) (before after : List ℕ) : Type 0 where
  pub words : List ℕ
  pub counted : length words ≡ (length table.items.items + 15) / 16
  pub bits : HaveBits words table.items.items
  pub bytes : after ≡ with_padding 4 before ++ (table_bytes words table.buckets.items (records_of rows) ++ keys_bytes table.items.items)

-- the same of a table of locks, which is left out where there are none
abbrev pub HasTableOfLocks : TablePlan → List Numbers → List ℕ → List ℕ → Type 0
HasTableOfLocks locks rows before after =
    (0 < length locks.items.items) × HasTable locks rows before after
    ⊎ (length locks.items.items ≡ 0) × (after ≡ before)

-- either of them, of records that are the items'
pub record HasItsTable (Has : TablePlan → List Numbers → List ℕ → List ℕ → Type 0) (table : TablePlan) (keys_at : ℕ) (c : Contents) (before after : List ℕ) : Type 0 where
  pub rows : List Numbers
  pub are : AreRowsOf table.items.items keys_at c rows
  pub written : Has table rows before after

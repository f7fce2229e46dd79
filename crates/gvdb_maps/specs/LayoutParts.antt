-- Where the parts of a database are laid, in the words of its plan, and from where the cursor is; and where contents are laid: the
-- bytes of each value, which is stored once, each list, and the table of locks.
use Rattle.std.specs.Prelude.{ℕ, ◌+◌, ◌-◌, ◌<◌, ◌≤◌, ◌≡◌, List, length, take, slice_index_or, Some, None, [], ◌∷◌, slice_index, zero, suc, ◌%◌, Option, false, if◌then◌else◌, ◌*◌}
use Rattle.gv_model.specs.Layout.{round_up}
use Rattle.dconf_model.specs.Table.{value_kind}
use Rattle.dconf_model.specs.Plans.{Plan, size_of_table, keys_end, locks_end, values_end, root_end, nothing_bytes}
use Rattle.gvdb_format.specs.declared.record.ItemRecord.{ItemRecord as Numbers}
use Rattle.gvdb_maps.specs.declared.names.Named.{Named}
use Rattle.gvdb_maps.specs.PlanWords.{named, name_at, kind_at, content_bytes, entries_of, kind_of}
use Rattle.std.specs.List.{flat_map, list_any}
use Rattle.gvdb_maps.specs.declared.layout.Pointer.{Pointer}
use Rattle.gvdb_maps.specs.declared.names.Content.{Content}
use Rattle.gvdb_maps.specs.declared.names.Content.TheVariants.{Value, List as Listed, Locks}
use Rattle.gv_model.specs.Limits.{limit}
use Rattle.std.specs.Borrow.{Bor}
use Rattle.std.specs.Str.{bytes_eq}
use Rattle.std.specs.BTreeMap.{BTreeMap, get}
use Rattle.std.specs.Cmp.Lexicographic.{slice_cmp}
use Rattle.std.specs.Ordering.{nat_cmp}
use Rattle.std.specs.declared.cmp.Ordering.{Ordering}
use Rattle.dconf_model.specs.Bytes.{hash_of}
use Rattle.gvdb_maps.specs.declared.contents.Contents.{Contents}

-- what stands for the numbers of an item where there is none
abbrev pub no_numbers : Numbers
no_numbers = record { hash = 0; parent = None; key_start = 0; key_size = 0; kind = 0; start = 0; end = 0 }

abbrev pub row : List Numbers → ℕ → Numbers
row rows i = slice_index_or rows i no_numbers

-- ---- names whose numbers fit

-- each key begins in its name, a name fits in two bytes, and a directory is one of them
pub record CanBeLaid (items : List Named) : Type 0 where
  pub from : (i : ℕ) → i < length items → (named items i).from ≤ length (name_at items i)
  pub short : (i : ℕ) → i < length items → length (name_at items i) ≤ 65535
  pub parents : (i p : ℕ) → i < length items → (named items i).parent ≡ Some p → p < length items

-- each is a lock
abbrev pub AreLocks : List Named → Type 0
AreLocks items = (i : ℕ) → i < length items → (kind_at items i ≡ value_kind) × (content_bytes (named items i).content ≡ nothing_bytes)

-- ---- the numbers of items

-- those of a name, with its key where the keys before it end
pub record IsRecordOf (items : List Named) (keys_at i : ℕ) (r : Numbers) : Type 0 where
  pub hash : r.hash ≡ (named items i).hash
  pub parent : r.parent ≡ (named items i).parent
  pub key_start : r.key_start ≡ keys_end (entries_of items) keys_at i
  pub key_size : r.key_size ≡ length ((entries_of items).entry i).key
  pub of_kind : r.kind ≡ kind_at items i

-- those of a name whose key starts there
pub record AreNumbersOf (d : Named) (at : ℕ) (r : Numbers) : Type 0 where
  pub hash : r.hash ≡ d.hash
  pub parent : r.parent ≡ d.parent
  pub key_start : r.key_start ≡ at
  pub key_size : r.key_size ≡ length d.name.now - d.from
  pub of_kind : r.kind ≡ kind_of d.content

pub record AreRecords (items : List Named) (keys_at : ℕ) (rows : List Numbers) : Type 0 where
  pub counted : length rows ≡ length items
  pub each : (i : ℕ) → i < length items → IsRecordOf items keys_at i (row rows i)

-- the content occurs from there to there
pub record HasPointer (r : Numbers) (start end : ℕ) : Type 0 where
  pub start_is : r.start ≡ start
  pub end_is : r.end ≡ end

-- ---- places

abbrev pub root_keys_at : Plan → ℕ
root_keys_at p = 24 + size_of_table p.root.count

abbrev pub lists_at : Plan → ℕ
lists_at p = round_up 4 (keys_end p.root (root_keys_at p) p.root.count)

abbrev pub locks_at : Plan → ℕ
locks_at p = round_up 4 (root_end p)

abbrev pub lock_keys_at : Plan → ℕ
lock_keys_at p = locks_at p + size_of_table p.locks.count

abbrev pub values_at : Plan → ℕ
values_at p = locks_end p.locks (root_end p)

-- where value k starts, of values that are laid from there on
abbrev pub value_start : ℕ → List (List ℕ) → ℕ → ℕ
value_start at values k = round_up 8 (values_end at (take k values))

-- where a table of so many items ends
abbrev pub table_end : ℕ → ℕ → ℕ
table_end at items = round_up 4 at + size_of_table items

-- where the keys of items end
abbrev pub all_keys_end : ℕ → List Named → ℕ
all_keys_end at items = keys_end (entries_of items) at (length items)

-- where a table ends with its keys
abbrev pub laid_end : ℕ → List Named → ℕ
laid_end at items = all_keys_end (table_end at (length items)) items

-- ---- pointers

abbrev pub pointer_at : List Pointer → ℕ → Pointer
pointer_at pointers k = slice_index_or pointers k (record { start = 0; end = 0 })

-- its ends have four bytes
pub record IsShort (pointer : Pointer) : Type 0 where
  pub start : pointer.start ≤ limit
  pub end : pointer.end ≤ limit

-- ---- values

-- the value of an item, where it has one
abbrev pub own_value : Content → List (List ℕ)
own_value (Value bytes) = bytes.now ∷ []
own_value Listed = []
own_value Locks = []

-- the values of items, in their order
abbrev pub own_values : List Named → List (List ℕ)
own_values items = flat_map (λ n. own_value n.content) items

-- each item that has a value has a place, where that value is among all
pub record HavePlaces (items : List Named) (values : List (List ℕ)) (places : List ℕ) : Type 0 where
  pub counted : length places ≡ length items
  pub within : (i : ℕ) → i < length items → kind_at items i ≡ value_kind → slice_index places i < length values
  pub holds : (i : ℕ) → i < length items → kind_at items i ≡ value_kind →
      slice_index_or values (slice_index places i) [] ≡ content_bytes (named items i).content

-- each value is where it starts, up to its end
pub record ArePointers (at : ℕ) (values : List (List ℕ)) (pointers : List Pointer) : Type 0 where
  pub counted : length pointers ≡ length values
  pub starts : (k : ℕ) → k < length values → (pointer_at pointers k).start ≡ value_start at values k
  pub ends : (k : ℕ) → k < length values → (pointer_at pointers k).end ≡ value_start at values k + length (slice_index_or values k [])

abbrev pub Others : Type 0
Others = BTreeMap (Bor (List ℕ)) ℕ

abbrev pub by_bytes : Bor (List ℕ) → Bor (List ℕ) → Ordering
by_bytes x y = slice_cmp nat_cmp x.now y.now

-- what the slot of a value's hash has: 0, or the place of a value, counted from 1
abbrev pub slot_of : List ℕ → List ℕ → ℕ
slot_of slots value = slice_index_or slots (hash_of value % length slots) 0

-- where a value is found whose slot has that
abbrev pub place_by : Others → List (List ℕ) → Bor (List ℕ) → ℕ → Option ℕ
place_by others values value zero = None
place_by others values value (suc k) = if bytes_eq (slice_index_or values k []) value.now then Some k else get by_bytes others value

-- what is found of a value is there, and a value of which nothing is found is not among the values
pub record ArePlaces (slots : List ℕ) (others : Others) (values : List (List ℕ)) : Type 0 where
  pub some : 0 < length slots
  pub within : (j : ℕ) → slice_index_or slots j 0 ≤ length values
  pub held : (value : Bor (List ℕ)) (k : ℕ) → get by_bytes others value ≡ Some k → (k < length values) × (slice_index_or values k [] ≡ value.now)
  pub absent : (value : Bor (List ℕ)) → place_by others values value (slot_of slots value.now) ≡ None → list_any (bytes_eq value.now) values ≡ false

-- of item i; a list ends where the next item's list starts
abbrev pub content_pointer : Contents → ℕ → Content → Pointer
content_pointer c i (Value bytes) = pointer_at c.pointers.now (slice_index c.places.now i)
content_pointer c i Listed = record { start = c.lists + 4 * slice_index c.firsts.now i; end = c.lists + 4 * slice_index c.firsts.now (i + 1) }
content_pointer c i Locks = c.table

-- it is known
abbrev pub CanPointAt : Contents → ℕ → Content → Type 0
CanPointAt c i (Value bytes) = (i < length c.places.now) × (slice_index c.places.now i < length c.pointers.now)
CanPointAt c i Listed = i + 1 < length c.firsts.now
CanPointAt c i Locks = Unit {0}

-- of each item it is known, and fits in two numbers of four bytes
pub record CanPoint (items : List Named) (c : Contents) : Type 0 where
  pub there : (i : ℕ) → i < length items → CanPointAt c i (named items i).content
  pub short : (i : ℕ) → i < length items → IsShort (content_pointer c i (named items i).content)

-- each row says it
abbrev pub ArePointed : List Named → Contents → List Numbers → Type 0
ArePointed items c rows =
    (i : ℕ) → i < length items → HasPointer (row rows i) (content_pointer c i (named items i).content).start (content_pointer c i (named items i).content).end

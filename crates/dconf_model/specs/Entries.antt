-- The entries of a table: what its items stand for, and a table in which they are laid out.
use Rattle.std.specs.Prelude.{ℕ, ◌+◌, ◌-◌, ◌%◌, ◌≤◌, ◌<◌, ◌≡◌, ◌⊎◌, ◌↔◌, List, ◌++◌, length, Option, Some, None, Contains, IsUtf8, IsTrue, codes}
use Rattle.dconf_model.specs.Bytes.{hash_of}
use Rattle.dconf_model.specs.Paths.{starts_with_slash}
use Rattle.dconf_model.specs.Table.{Table, Opens, item, item_count, key, bucket, bucket_count, HasBytes, value_kind, list_kind, table_kind, bytes_of, table_of}
use Rattle.dconf_model.specs.Names.{Rows}
use Rattle.dconf_model.specs.Search.{PassesBloom}
use Rattle.dconf_model.specs.Searchable.{IsKind}
use Rattle.dconf_model.specs.Sound.{IsDirectoryPart, list_length, listed, IsSound}

-- an entry has a full name, of which the key is the last part; the number of its directory; and a kind
pub record Entry : Type 0 where
  pub name : List ℕ
  pub key : List ℕ
  pub parent : Option ℕ
  pub kind : ℕ

-- the entries of a table, by their numbers
pub record Entries : Type 0 where
  pub count : ℕ
  pub entry : ℕ → Entry

abbrev pub EachEntry : Entries → (ℕ → Type 0) → Type 0
EachEntry e P = (i : ℕ) → i < e.count → P i

-- ---- entries with names

-- the name is the directory's name and the key
abbrev pub IsSpelled : Entries → ℕ → Option ℕ → Type 0
IsSpelled e i None = (e.entry i).name ≡ (e.entry i).key
IsSpelled e i (Some p) = (p < e.count) × ((e.entry i).name ≡ (e.entry p).name ++ (e.entry i).key)

pub record IsEntry (e : Entries) (i : ℕ) : Type 0 where
  pub spelled : IsSpelled e i (e.entry i).parent
  pub some : 0 < length (e.entry i).key
  pub utf8 : IsUtf8 (e.entry i).key
  pub no_nul : ¬ Contains (e.entry i).key 0
  pub of_kind : IsKind (e.entry i).kind

-- no two entries have the same name
pub record AreEntries (e : Entries) : Type 0 where
  pub each : EachEntry e (IsEntry e)
  pub once : (i j : ℕ) → i < e.count → j < e.count → (e.entry i).name ≡ (e.entry j).name → i ≡ j

-- ---- a table that lays them out

-- Members are in the order of their groups: before the first of a group are just the members of lesser groups. A
-- group without members has the number of the next member.
pub record AreFirsts (count groups : ℕ) (group first : ℕ → ℕ) : Type 0 where
  pub within : (g : ℕ) → g < groups → first g ≤ count
  pub lesser : (g i : ℕ) → g < groups → i < count → (i < first g) ↔ (group i < g)

-- there are as many buckets as entries
abbrev pub bucket_of : Entries → ℕ → ℕ
bucket_of e i = hash_of (e.entry i).name % e.count

-- what occurs in item i is what entry i says
pub record IsLaidItem (t : Table) (e : Entries) (i : ℕ) : Type 0 where
  pub hash : (item t i).hash ≡ hash_of (e.entry i).name
  pub parent : (item t i).parent ≡ (e.entry i).parent
  pub key_inside : (item t i).key_end ≤ length t.file
  pub key_is : key t i ≡ (e.entry i).key
  pub of_kind : (item t i).kind ≡ (e.entry i).kind
  pub valid : HasBytes t i
  pub whole : (e.entry i).kind ≡ list_kind → length (bytes_of t i) % 4 ≡ 0
  pub passes : PassesBloom t (hash_of (e.entry i).name)

pub record IsLaidOut (t : Table) (e : Entries) : Type 0 where
  pub counted : item_count t ≡ e.count
  pub bucketed : bucket_count t ≡ e.count
  pub firsts : AreFirsts e.count e.count (bucket_of e) (bucket t)
  pub items : EachEntry e (IsLaidItem t e)

-- ---- the entries of a root table: directories, keys and `.locks`

-- `/`, or `.locks`
abbrev pub IsTopEntry : Entry → Type 0
IsTopEntry x = (x.kind ≡ list_kind) × (x.key ≡ codes "/")
    ⊎ (x.kind ≡ table_kind) × (x.key ≡ codes ".locks")

-- a key, or a directory
abbrev pub IsPartEntry : Entry → Type 0
IsPartEntry x = (x.kind ≡ value_kind) × ¬ Contains x.key 47
    ⊎ (x.kind ≡ list_kind) × IsDirectoryPart x.key

abbrev pub EntryHasParent : Entries → ℕ → Option ℕ → Type 0
EntryHasParent e i None = IsTopEntry (e.entry i)
EntryHasParent e i (Some p) = ((e.entry p).kind ≡ list_kind) × IsPartEntry (e.entry i)

abbrev pub IsChildEntry : Entries → ℕ → ℕ → Type 0
IsChildEntry e i j = (j < e.count) × ((e.entry j).parent ≡ Some i)

pub record IsRootEntry (e : Entries) (i : ℕ) : Type 0 where
  pub has_parent : EntryHasParent e i (e.entry i).parent
  pub short : length (e.entry i).name ≤ 65535
  pub child : (e.entry i).kind ≡ list_kind → ((e.entry i).name ≡ codes "/") ⊎ ((j : ℕ) × IsChildEntry e i j)

-- ---- the lists of a table: the children of all its directories, those of one after those of another

-- so many children, which of the entries each is, and its directory; and the first child of each directory
pub record Children : Type 0 where
  pub count : ℕ
  pub child : ℕ → ℕ
  pub directory : ℕ → ℕ
  pub first : ℕ → ℕ

-- each entry with a directory is a child, once
pub record AreChildren (e : Entries) (c : Children) : Type 0 where
  pub firsts : AreFirsts c.count (e.count + 1) c.directory c.first
  pub children : (k : ℕ) → k < c.count → IsChildEntry e (c.directory k) (c.child k)
  pub each : (j p : ℕ) → IsChildEntry e p j → (k : ℕ) × (k < c.count) × (c.child k ≡ j)
  pub once : (k m : ℕ) → k < c.count → m < c.count → c.child k ≡ c.child m → k ≡ m

-- the list of item i holds the children of entry i
pub record IsLaidList (t : Table) (c : Children) (i : ℕ) : Type 0 where
  pub size : list_length t i ≡ c.first (i + 1) - c.first i
  pub numbers : (k : ℕ) → k < list_length t i → listed t i k ≡ c.child (c.first i + k)

-- ---- a table of locks

pub record IsLockEntry (x : Entry) : Type 0 where
  pub value : x.kind ≡ value_kind
  pub whole : x.parent ≡ None
  pub absolute : IsTrue (starts_with_slash x.key)

-- locks that can be found, in a table that opens
pub record AreLaidLocks (t : Table) (e : Entries) : Type 0 where
  pub opens : Opens t
  pub laid : IsLaidOut t e
  pub entries : AreEntries e
  pub locks : EachEntry e (λ i. IsLockEntry (e.entry i))

-- ---- a root table

pub record IsLaidRoot (t : Table) (e : Entries) (c : Children) (l : Entries) : Type 0 where
  pub laid : IsLaidOut t e
  pub entries : AreEntries e
  pub root : EachEntry e (IsRootEntry e)
  pub children : AreChildren e c
  pub lists : (i : ℕ) → i < e.count → (e.entry i).kind ≡ list_kind → IsLaidList t c i
  pub locks : (i : ℕ) → i < e.count → (e.entry i).name ≡ codes ".locks" → AreLaidLocks (table_of t i) l

-- ---- laws

-- a root table that is laid out is sound
abbrev pub LaidIsSound : Type 0
LaidIsSound = (t : Table) (e : Entries) (c : Children) (locks : Entries) → IsLaidRoot t e c locks → IsSound t

-- the rows of a table that is laid out are its entries
abbrev pub RowsAreEntries : Type 0
RowsAreEntries =
    (t : Table) (e : Entries) (name : List ℕ) (kind : ℕ) (bytes : List ℕ) → IsLaidOut t e → AreEntries e →
    Rows t name kind bytes
    ↔ ((i : ℕ) × (i < e.count) × (name ≡ (e.entry i).name) × ((e.entry i).kind ≡ kind) × (bytes_of t i ≡ bytes))

-- What the names, the tables and the values of the code stand for, in the words of entries and plans; and what holds of names in
-- the order of their bytes, each after its directory.
use Rattle.std.specs.Prelude.{ℕ, List, [], length, None, drop, slice_index, slice_index_or, ◌+◌, ◌-◌, ◌<◌, ◌≤◌, ◌≡◌, ◌≢◌, ◌⊎◌, ◌∷◌, ◌++◌, take, Option, Some, Contains, IsUtf8, codes}
use Rattle.gvdb_maps.specs.declared.names.Content.{Content}
use Rattle.gvdb_maps.specs.declared.names.Content.TheVariants.{Value, List as Listed, Locks}
use Rattle.gvdb_maps.specs.declared.names.Named.{Named}
use Rattle.gvdb_maps.specs.declared.table.TablePlan.{TablePlan}
use Rattle.dconf_model.specs.Entries.{Entry, Entries, Children, IsTopEntry}
use Rattle.dconf_model.specs.Plans.{Plan, IsRootName, HasLocks, nothing_bytes}
use Rattle.std.specs.Cmp.Lexicographic.{slice_cmp}
use Rattle.std.specs.Ordering.{nat_cmp}
use Rattle.std.specs.List.{All}
use Rattle.std.specs.declared.cmp.Ordering.TheVariants.{Less}
use Rattle.std.specs.FinMap.{get, keys}
use Rattle.dconf_model.specs.Bytes.{hash_of}
use Rattle.dconf_model.specs.Table.{value_kind, list_kind, table_kind}
use Rattle.dconf_model.specs.Settings.{Settings}

abbrev pub kind_of : Content → ℕ
kind_of (Value bytes) = 118
kind_of Listed = 76
kind_of Locks = 72

-- the bytes of a value, none of anything else
abbrev pub content_bytes : Content → List ℕ
content_bytes (Value bytes) = bytes.now
content_bytes Listed = []
content_bytes Locks = []

abbrev pub entry_of : Named → Entry
entry_of n = record { name = n.name.now; key = drop n.from n.name.now; parent = n.parent; kind = kind_of n.content }

-- what stands for a name at a place where there is none
abbrev pub no_name : Named
no_name = record { name = record { ref_ptr = (0, 0); now = [] }; from = 0; hash = 0; parent = None; content = Listed }

abbrev pub entries_of : List Named → Entries
entries_of names = record { count = length names; entry = λ i. entry_of (slice_index_or names i no_name) }

abbrev pub children_of : TablePlan → Children
children_of t = record {
  count = length t.children.items;
  child = λ k. (slice_index_or t.children.items k (0, 0)).1;
  directory = λ k. (slice_index_or t.children.items k (0, 0)).0;
  first = λ g. slice_index t.firsts.items g;
}

-- the plan by which a database of these two tables is laid
abbrev pub plan_of : TablePlan → TablePlan → Plan
plan_of root locks = record {
  root = entries_of root.items.items;
  children = children_of root;
  value = λ i. content_bytes (slice_index_or root.items.items i no_name).content;
  locks = entries_of locks.items.items;
}

abbrev pub named : List Named → ℕ → Named
named names i = slice_index_or names i no_name

abbrev pub name_at : List Named → ℕ → List ℕ
name_at names i = (named names i).name.now

abbrev pub kind_at : List Named → ℕ → ℕ
kind_at names i = kind_of (named names i).content

-- the first name precedes the second
abbrev pub IsBefore : List ℕ → List ℕ → Type 0
IsBefore a b = slice_cmp nat_cmp a b ≡ Less

-- a slash at that place
pub record IsSlash (text : List ℕ) (i : ℕ) : Type 0 where
  pub here : i < length text
  pub slash : slice_index text i ≡ 47

-- none from one place up to another
abbrev pub HasNoSlash : List ℕ → ℕ → ℕ → Type 0
HasNoSlash text from to = (i : ℕ) → from ≤ i → i < to → slice_index text i ≢ 47

-- ---- one name

-- its hash, and its key, which is not empty
pub record IsFit (n : Named) : Type 0 where
  pub hash : n.hash ≡ hash_of n.name.now
  pub some : n.from < length n.name.now
  pub utf8 : IsUtf8 (drop n.from n.name.now)
  pub no_nul : ¬ Contains (drop n.from n.name.now) 0
  pub short : length n.name.now ≤ 65535

-- a value's name has no slash after its directory, that of a list one at its end and not alone
abbrev pub EndsAs : Named → Type 0
EndsAs n =
    (kind_of n.content ≡ value_kind) × HasNoSlash n.name.now n.from (length n.name.now)
    ⊎ (kind_of n.content ≡ list_kind) × (n.from + 1 < length n.name.now) × (slice_index n.name.now (length n.name.now - 1) ≡ 47)
    × HasNoSlash n.name.now n.from (length n.name.now - 1)

pub record LiesIn (d n : Named) : Type 0 where
  pub directory : kind_of d.content ≡ list_kind
  pub prefix : take n.from n.name.now ≡ d.name.now
  pub from : n.from ≡ length d.name.now
  pub ends : EndsAs n

-- without a directory it is `/` or `.locks`; else it comes after its directory
abbrev pub NameHasParent : List Named → ℕ → Option ℕ → Type 0
NameHasParent names i None = ((named names i).from ≡ 0) × IsTopEntry (entry_of (named names i))
NameHasParent names i (Some p) = (p < i) × LiesIn (named names p) (named names i)

pub record IsPlaced (names : List Named) (i : ℕ) : Type 0 where
  pub fit : IsFit (named names i)
  pub has_parent : NameHasParent names i (named names i).parent

-- ---- all of them

abbrev pub ArePlaced : List Named → Type 0
ArePlaced names = (i : ℕ) → i < length names → IsPlaced names i

abbrev pub AreAscending : List Named → Type 0
AreAscending names = (i j : ℕ) → i < j → j < length names → IsBefore (name_at names i) (name_at names j)

abbrev pub HasChild : List Named → ℕ → Type 0
HasChild names i = (j : ℕ) × (j < length names) × ((named names j).parent ≡ Some i)

-- each directory but `/` has a child
abbrev pub HaveChildren : List Named → Type 0
HaveChildren names =
    (i : ℕ) → i < length names → kind_at names i ≡ list_kind → (name_at names i ≡ codes "/") ⊎ HasChild names i

abbrev pub AreRootNames : Settings → List Named → Type 0
AreRootNames s names = All (λ n. IsRootName s n.name.now) names

abbrev pub HoldsValue : Settings → Named → Type 0
HoldsValue s n = kind_of n.content ≡ value_kind → get s.values n.name.now ≡ Some (content_bytes n.content)

abbrev pub HoldValues : Settings → List Named → Type 0
HoldValues s names = All (HoldsValue s) names

-- the name is there, and stands for something of the kind
pub record IsThere (names : List Named) (name : List ℕ) (kind : ℕ) : Type 0 where
  pub at : ℕ
  pub counted : at < length names
  pub named : name_at names at ≡ name
  pub of_kind : kind_at names at ≡ kind

-- ---- a path that is added

-- names that a table's names can go on from
pub record AreGood (names : List Named) : Type 0 where
  pub placed : ArePlaced names
  pub ascending : AreAscending names
  pub children : HaveChildren names

-- the directory in which the path lies
pub record IsDirectoryAt (names : List Named) (text : List ℕ) (at : ℕ) : Type 0 where
  pub within : at < length names
  pub list : kind_at names at ≡ list_kind
  pub prefix : take (length (name_at names at)) text ≡ name_at names at
  pub inside : length (name_at names at) ≤ length text

-- the last name precedes the path, and those of its directories that go on after that place
pub record IsBeyond (last text : List ℕ) (from : ℕ) : Type 0 where
  pub path : IsBefore last text
  pub directories : (i : ℕ) → IsSlash text i → from ≤ i → IsBefore last (take (i + 1) text)

abbrev pub last_name : List Named → List ℕ
last_name names = name_at names (length names - 1)

-- a directory of the path
abbrev pub IsNewDirectory : List ℕ → Named → Type 0
IsNewDirectory text n = (kind_of n.content ≡ list_kind) × ((i : ℕ) × IsSlash text i × (n.name.now ≡ take (i + 1) text))

-- the path is the last name now, and lies in that directory
pub record IsAdded (old new : List Named) (text value : List ℕ) (directory : ℕ) : Type 0 where
  pub good : AreGood new
  pub more : List Named
  pub path : Named
  pub whole : new ≡ old ++ (more ++ path ∷ [])
  pub directories : All (IsNewDirectory text) more
  pub is_path : (path.name.now ≡ text) × (kind_of path.content ≡ value_kind) × (content_bytes path.content ≡ value)
  pub lies : IsDirectoryAt new text directory
  pub innermost : (i : ℕ) → IsSlash text i → i < length (name_at new directory)

-- the names of a root table, as far as these paths go: `/`, `.locks` where there are locks, paths that have a value and their directories
pub record AreNamesWith (s : Settings) (names : List Named) (paths : List (List ℕ)) : Type 0 where
  pub good : AreGood names
  pub each : AreRootNames s names
  pub values : HoldValues s names
  pub keys : All (λ path. IsThere names path value_kind) paths
  pub top : IsThere names (codes "/") list_kind
  pub locks : HasLocks s → IsThere names (codes ".locks") table_kind

abbrev pub AreNamesOf : Settings → List Named → Type 0
AreNamesOf s names = AreNamesWith s names (keys s.values)

-- ---- the names of a table of locks

pub record IsLockNamed (path : List ℕ) (n : Named) : Type 0 where
  pub utf8 : IsUtf8 path
  pub hash : n.hash ≡ hash_of n.name.now
  pub entry : entry_of n ≡ record { name = path; key = path; parent = None; kind = value_kind }
  pub value : content_bytes n.content ≡ nothing_bytes

-- the locked paths, in their order
pub record AreLockNames (s : Settings) (names : List Named) : Type 0 where
  pub counted : length names ≡ length (keys s.locks)
  pub each : (i : ℕ) → i < length names → IsLockNamed (slice_index_or (keys s.locks) i []) (named names i)

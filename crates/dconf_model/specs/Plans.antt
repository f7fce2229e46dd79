-- What the database of a map holds, in the order of its items, and how many bytes it takes.
--
-- The root table names `/`, each key, each directory of a key, and `.locks` where there are locks; the table of locks
-- names the locks. Both are in the order of buckets, of which there are as many as items, and then of names.
use Rattle.std.specs.Prelude.{ℕ, zero, suc, ◌+◌, ◌*◌, ◌-◌, ◌/◌, ◌<◌, ◌≡◌, ◌⊎◌, ◌↔◌, List, [], ◌∷◌, ◌++◌, length, fold, Some, codes, if◌then◌else◌, ◌==◌, IsTrue}
use Rattle.std.specs.List.{list_any}
use Rattle.std.specs.Str.{bytes_eq}
use Rattle.std.specs.Cmp.Lexicographic.{slice_cmp}
use Rattle.std.specs.Ordering.{nat_cmp}
use Rattle.std.specs.declared.cmp.Ordering.TheVariants.{Less}
use Rattle.std.specs.FinMap.{contains_key, get}
use Rattle.gv_model.specs.Layout.{round_up}
use Rattle.dconf_model.specs.Table.{Table, value_kind, list_kind, bytes_of, table_of}
use Rattle.dconf_model.specs.Names.{HasName, Rows}
use Rattle.dconf_model.specs.Searchable.{EachItem}
use Rattle.dconf_model.specs.Sound.{IsSound}
use Rattle.dconf_model.specs.Paths.{ends_with_slash}
use Rattle.dconf_model.specs.Settings.{Settings, IsSettings}
use Rattle.dconf_model.specs.Entries.{Entries, EachEntry, AreEntries, IsRootEntry, IsLockEntry, Children, AreChildren, bucket_of, IsLaidRoot}
use Rattle.dconf_model.specs.TableBytes.{table_size}

-- ---- the names

abbrev pub HasLocks : Settings → Type 0
HasLocks s = (path : List ℕ) × IsTrue (contains_key s.locks path)

-- a directory of a path is a prefix of it that ends in a slash
pub record IsDirectoryOf (directory path : List ℕ) : Type 0 where
  pub more : List ℕ
  pub whole : path ≡ directory ++ more
  pub slash : IsTrue (ends_with_slash directory)

pub data IsRootName (s : Settings) (name : List ℕ) : Type 0 where
  top : name ≡ codes "/" → IsRootName s name
  key : IsTrue (contains_key s.values name) → IsRootName s name
  directory : (path : List ℕ) → IsTrue (contains_key s.values path) → IsDirectoryOf name path → IsRootName s name
  locks : name ≡ codes ".locks" → HasLocks s → IsRootName s name

abbrev pub IsLockName : Settings → List ℕ → Type 0
IsLockName s name = IsTrue (contains_key s.locks name)

-- entry i precedes entry j: in an earlier bucket, or in the same and with a lesser name
abbrev pub Precedes : Entries → ℕ → ℕ → Type 0
Precedes e i j =
    (bucket_of e i < bucket_of e j)
    ⊎ ((bucket_of e i ≡ bucket_of e j) × (slice_cmp nat_cmp (e.entry i).name (e.entry j).name ≡ Less))

-- the entries have just these names, and are in order
pub record AreNamed (IsName : List ℕ → Type 0) (e : Entries) : Type 0 where
  pub each : EachEntry e (λ i. IsName (e.entry i).name)
  pub all : (name : List ℕ) → IsName name → (i : ℕ) × (i < e.count) × ((e.entry i).name ≡ name)
  pub ordered : (i j : ℕ) → i < j → j < e.count → Precedes e i j

-- ---- the plan of a database

-- the entries of the root table, the children of its directories, the bytes of its values, and the locks
pub record Plan : Type 0 where
  pub root : Entries
  pub children : Children
  pub value : ℕ → List ℕ
  pub locks : Entries

-- the value at a path is that of an entry
abbrev pub HasValueEntry : Plan → List ℕ → List ℕ → Type 0
HasValueEntry p path bytes =
    (i : ℕ) × (i < p.root.count) × ((p.root.entry i).name ≡ path) × ((p.root.entry i).kind ≡ value_kind) × (p.value i ≡ bytes)

pub record IsPlanOf (s : Settings) (p : Plan) : Type 0 where
  pub names : AreNamed (IsRootName s) p.root
  pub entries : AreEntries p.root
  pub places : EachEntry p.root (IsRootEntry p.root)
  pub children : AreChildren p.root p.children
  pub values : (i : ℕ) → i < p.root.count → (p.root.entry i).kind ≡ value_kind → get s.values (p.root.entry i).name ≡ Some (p.value i)
  pub keys : (path bytes : List ℕ) → get s.values path ≡ Some bytes → HasValueEntry p path bytes
  pub lock_names : AreNamed (IsLockName s) p.locks
  pub lock_entries : AreEntries p.locks
  pub locks : EachEntry p.locks (λ i. IsLockEntry (p.locks.entry i))

-- ---- a root table that is laid out by a plan, and what it holds

-- the bytes of a `v` that holds the empty string: the value at each lock
abbrev pub nothing_bytes : List ℕ
nothing_bytes = 0 ∷ 0 ∷ 115 ∷ []

-- the value of each item is the empty string
abbrev pub HaveEmptyStrings : Table → Type 0
HaveEmptyStrings t = EachItem t (λ i. bytes_of t i ≡ nothing_bytes)

pub record IsLaidBy (t : Table) (p : Plan) : Type 0 where
  pub laid : IsLaidRoot t p.root p.children p.locks
  pub values : (i : ℕ) → i < p.root.count → (p.root.entry i).kind ≡ value_kind → bytes_of t i ≡ p.value i
  pub lock_values : (i : ℕ) → i < p.root.count → (p.root.entry i).name ≡ codes ".locks" → HaveEmptyStrings (table_of t i)

-- its rows of kind `v` are the paths that have a value, with the bytes of the value
abbrev pub HoldsValues : Table → Settings → Type 0
HoldsValues t s = (path bytes : List ℕ) → Rows t path value_kind bytes ↔ (get s.values path ≡ Some bytes)

-- it has a table of locks where there are locks; there the locks are what is named, each with the empty string
pub record HoldsLocks (t : Table) (s : Settings) : Type 0 where
  pub there : HasLocks s → (i : ℕ) × HasName t i (codes ".locks")
  pub needed : (i : ℕ) → HasName t i (codes ".locks") → HasLocks s
  pub names : (i : ℕ) → HasName t i (codes ".locks") →
      (path : List ℕ) → ((j : ℕ) × HasName (table_of t i) j path) ↔ IsTrue (contains_key s.locks path)
  pub values : (i : ℕ) → HasName t i (codes ".locks") → HaveEmptyStrings (table_of t i)

-- laws: a root table that is laid out by a plan of settings is sound, and holds them
abbrev pub PlanIsSound : Type 0
PlanIsSound = (t : Table) (p : Plan) → IsLaidBy t p → IsSound t

abbrev pub PlanHoldsValues : Type 0
PlanHoldsValues = (t : Table) (s : Settings) (p : Plan) → IsPlanOf s p → IsLaidBy t p → HoldsValues t s

abbrev pub PlanHoldsLocks : Type 0
PlanHoldsLocks = (t : Table) (s : Settings) (p : Plan) → IsSettings s → IsPlanOf s p → IsLaidBy t p → HoldsLocks t s

-- ---- where its parts end

-- a bloom word for each 16 items, and as many buckets as items
abbrev pub size_of_table : ℕ → ℕ
size_of_table n = table_size ((n + 15) / 16) n n

-- where the keys of so many items end that start there
abbrev pub keys_end : Entries → ℕ → ℕ → ℕ
keys_end e at zero = at
keys_end e at (suc i) = keys_end e at i + length (e.entry i).key

-- how many bytes the list of an item takes
abbrev pub list_size : Children → ℕ → ℕ
list_size c i = 4 * (c.first (i + 1) - c.first i)

-- where the lists of so many items end, each at a multiple of 4
abbrev pub lists_end : Entries → Children → ℕ → ℕ → ℕ
lists_end e c at zero = at
lists_end e c at (suc i) =
    if (e.entry i).kind == list_kind then round_up 4 (lists_end e c at i) + list_size c i else lists_end e c at i

-- the table of locks occurs at a multiple of 4, with its keys after it; it is there where there are locks
abbrev pub locks_end : Entries → ℕ → ℕ
locks_end l at = if l.count == 0 then at else keys_end l (round_up 4 at + size_of_table l.count) l.count

-- the values of so many items
abbrev pub item_values : Plan → ℕ → List (List ℕ)
item_values p zero = []
item_values p (suc i) = item_values p i ++ (if (p.root.entry i).kind == value_kind then p.value i ∷ [] else [])

abbrev pub all_values : Plan → List (List ℕ)
all_values p = item_values p p.root.count ++ (if p.locks.count == 0 then [] else nothing_bytes ∷ [])

-- equal values are stored once, at the first place
abbrev pub with_new : List (List ℕ) → List ℕ → List (List ℕ)
with_new seen value = if list_any (bytes_eq value) seen then seen else seen ++ value ∷ []

abbrev pub once_each : List (List ℕ) → List (List ℕ)
once_each values = fold with_new [] values

-- where values end, each at a multiple of 8
abbrev pub values_end : ℕ → List (List ℕ) → ℕ
values_end at values = fold (λ n value. round_up 8 n + length value) at values

-- how many bytes the whole takes
abbrev pub root_end : Plan → ℕ
root_end p = lists_end p.root p.children (keys_end p.root (24 + size_of_table p.root.count) p.root.count) p.root.count

abbrev pub length_of : Plan → ℕ
length_of p = values_end (locks_end p.locks (root_end p)) (once_each (all_values p))

-- the database of a map has so many bytes
abbrev pub HasLength : Settings → ℕ → Type 0
HasLength s n = (p : Plan) × IsPlanOf s p × (length_of p ≡ n)

-- law: a map has one length
abbrev pub OneLength : Type 0
OneLength = (s : Settings) (m n : ℕ) → HasLength s m → HasLength s n → m ≡ n

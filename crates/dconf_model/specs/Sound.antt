-- A sound database: the rules S1 to S11, in their order, and the first fault of one that is not sound.
--
-- The rules are this project's own. By the first eight each item can be found by its name; by the others the items are
-- those of a settings database: directories, keys, and a table of locks.
use Rattle.std.specs.Prelude.{◌≡◌, ◌≢◌, ◌+◌, ◌*◌, ◌-◌, ◌/◌, ◌≤◌, ◌<◌, ◌⊎◌, ℕ, List, [], ◌∷◌, ◌++◌, length, Option, Some, None, Contains, IsTrue, codes}
use Rattle.dconf_model.specs.Bytes.{u32_at}
use Rattle.dconf_model.specs.Paths.{starts_with_slash}
use Rattle.dconf_model.specs.Table.{Table, Opens, item, item_count, key, table_of, value_kind, list_kind, table_kind}
use Rattle.dconf_model.specs.Names.{HasName}
use Rattle.dconf_model.specs.Searchable.{EachItem, HasBuckets, HasGoodKey, HasEnd, HasHash, IsInSpan, IsInBloom, IsOnlyNamed, HasContent, IsSearchable}

pub data Rule : Type 0 where
  buckets keys chain hash span bloom once content place lists locks : Rule

-- the number after the S
abbrev pub rule_number : Rule → ℕ
rule_number buckets = 1
rule_number keys = 2
rule_number chain = 3
rule_number hash = 4
rule_number span = 5
rule_number bloom = 6
rule_number once = 7
rule_number content = 8
rule_number place = 9
rule_number lists = 10
rule_number locks = 11

-- ---- S9: the item has a place among directories, keys and locks

-- `/`, or the table of locks
abbrev pub IsTop : Table → ℕ → Type 0
IsTop t i = ((item t i).kind ≡ list_kind) × (key t i ≡ codes "/")
    ⊎ ((item t i).kind ≡ table_kind) × (key t i ≡ codes ".locks")

-- the last part of a directory's path: one slash, at the end, and not alone
pub record IsDirectoryPart (part : List ℕ) : Type 0 where
  pub name : List ℕ
  pub whole : part ≡ name ++ 47 ∷ []
  pub some : 0 < length name
  pub plain : ¬ Contains name 47

-- a key, or a directory
abbrev pub IsPart : Table → ℕ → Type 0
IsPart t i = ((item t i).kind ≡ value_kind) × ¬ Contains (key t i) 47
    ⊎ ((item t i).kind ≡ list_kind) × IsDirectoryPart (key t i)

abbrev pub HasParent : Table → ℕ → Option ℕ → Type 0
HasParent t i None = IsTop t i
HasParent t i (Some p) = ((item t p).kind ≡ list_kind) × IsPart t i

pub record HasPlace (t : Table) (i : ℕ) : Type 0 where
  pub has_parent : HasParent t i (item t i).parent
  pub short : (name : List ℕ) → HasName t i name → length name ≤ 65535

-- ---- S10: a list holds exactly the items whose parent it is, once each; it is empty only at `/`

abbrev pub list_length : Table → ℕ → ℕ
list_length t i = ((item t i).end - (item t i).start) / 4

-- the number at place k of the list
abbrev pub listed : Table → ℕ → ℕ → ℕ
listed t i k = u32_at t.file ((item t i).start + 4 * k)

abbrev pub IsChild : Table → ℕ → ℕ → Type 0
IsChild t i j = (j < item_count t) × ((item t j).parent ≡ Some i)

pub record ListsChildren (t : Table) (i : ℕ) : Type 0 where
  pub children_alone : (k : ℕ) → k < list_length t i → IsChild t i (listed t i k)
  pub each_child : (j : ℕ) → IsChild t i j → (k : ℕ) × (k < list_length t i) × (listed t i k ≡ j)
  pub once : (k m : ℕ) → k < list_length t i → m < list_length t i → listed t i k ≡ listed t i m → k ≡ m
  pub empty_at_root : list_length t i ≡ 0 → HasName t i (codes "/")

abbrev pub HasListIfAny : Table → ℕ → Type 0
HasListIfAny t i = (item t i).kind ≡ list_kind → ListsChildren t i

-- ---- S11: `.locks` is a table of locks, which keeps S1 to S8

-- a lock: a value whose key is a whole name
pub record IsLock (t : Table) (i : ℕ) : Type 0 where
  pub value : (item t i).kind ≡ value_kind
  pub whole : (item t i).parent ≡ None
  pub absolute : IsTrue (starts_with_slash (key t i))

pub record IsLockTable (t : Table) : Type 0 where
  pub opens : Opens t
  pub searchable : IsSearchable t
  pub locks : EachItem t (IsLock t)

abbrev pub HasLocksIfAny : Table → ℕ → Type 0
HasLocksIfAny t i = HasName t i (codes ".locks") → IsLockTable (table_of t i)

-- ---- all rules

-- the item keeps the rule; the first rule is one of the table alone
abbrev pub Keeps : Table → Rule → ℕ → Type 0
Keeps t buckets i = HasBuckets t
Keeps t keys i = HasGoodKey t i
Keeps t chain i = HasEnd t i
Keeps t hash i = HasHash t i
Keeps t span i = IsInSpan t i
Keeps t bloom i = IsInBloom t i
Keeps t once i = IsOnlyNamed t i
Keeps t content i = HasContent t i
Keeps t place i = HasPlace t i
Keeps t lists i = HasListIfAny t i
Keeps t locks i = HasLocksIfAny t i

abbrev pub KeepsAll : Table → Rule → Type 0
KeepsAll t buckets = HasBuckets t
KeepsAll t rule = EachItem t (Keeps t rule)

abbrev pub IsSound : Table → Type 0
IsSound t = (rule : Rule) → KeepsAll t rule

-- ---- what is wrong with a table that is not sound

-- the least item that doesn't keep the rule
pub record IsLeastFault (t : Table) (rule : Rule) (i : ℕ) : Type 0 where
  pub counted : i < item_count t
  pub fails : ¬ Keeps t rule i
  pub earlier : (j : ℕ) → j < i → Keeps t rule j

-- where the rule fails: S1 at no item, any other at the least item that doesn't keep it
abbrev pub FailsAt : Table → Rule → Option ℕ → Type 0
FailsAt t rule None = (rule ≡ buckets) × ¬ HasBuckets t
FailsAt t rule (Some i) = (rule ≢ buckets) × IsLeastFault t rule i

-- the least rule that fails, and where
pub record IsFirstFault (t : Table) (rule : Rule) (at : Option ℕ) : Type 0 where
  pub fails : FailsAt t rule at
  pub earlier : (r : Rule) → rule_number r < rule_number rule → KeepsAll t r

-- ---- laws

-- in a sound table each item can be found by its name
abbrev pub SoundIsSearchable : Type 0
SoundIsSearchable = (t : Table) → IsSound t → IsSearchable t

-- a sound table has no fault
abbrev pub SoundHasNoFault : Type 0
SoundHasNoFault = (t : Table) (rule : Rule) (at : Option ℕ) → IsSound t → ¬ IsFirstFault t rule at

-- and no table has two
abbrev pub HasOneFirstFault : Type 0
HasOneFirstFault =
    (t : Table) (r s : Rule) (at to : Option ℕ) → IsFirstFault t r at → IsFirstFault t s to → (r ≡ s) × (at ≡ to)

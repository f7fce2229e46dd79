-- Laws of sound tables: what a search of one finds, what `.locks` holds, and what the list of a directory gives.
use Rattle.std.specs.Prelude.{◌≡◌, ◌≢◌, ◌<◌, ◌↔◌, ℕ, List, ◌++◌, Some, None, Contains, AllPairs, IsTrue, IsUtf8, codes}
use Rattle.dconf_model.specs.Paths.{is_key_path, ends_with_slash, first_part}
use Rattle.dconf_model.specs.Table.{Table, Opens, item, item_count, key, value_kind, list_kind, table_kind, table_of}
use Rattle.dconf_model.specs.Names.{HasName, IsRow, Rows}
use Rattle.dconf_model.specs.Search.{Finds}
use Rattle.dconf_model.specs.Listed.{keys_in_list}
use Rattle.dconf_model.specs.Searchable.{IsSearchable}
use Rattle.dconf_model.specs.Sound.{IsSound}

-- ---- searches

-- a search finds an item exactly where it is a row of the name and kind that are sought, and nothing where none is
pub record FindsRows (t : Table) : Type 0 where
  pub found : (name : List ℕ) (kind i : ℕ) → Finds t name kind (Some i) ↔ IsRow t name kind i
  pub missed : (name : List ℕ) (kind : ℕ) → Finds t name kind None ↔ ((i : ℕ) → ¬ IsRow t name kind i)

abbrev pub SoundFindsRows : Type 0
SoundFindsRows = (t : Table) → IsSound t → FindsRows t

-- ---- `.locks`

-- a table that opens, in which a search finds the rows; they are its items, each a `v` by the name of its key
pub record HoldsLocksAlone (t : Table) : Type 0 where
  pub opens : Opens t
  pub searchable : IsSearchable t
  pub finds : FindsRows t
  pub rows : (name : List ℕ) (kind i : ℕ) → IsRow t name kind i ↔ ((i < item_count t) × (name ≡ key t i) × (kind ≡ value_kind))

-- `.locks` is a row of kind `H`, and such a table
abbrev pub LocksAreSearchable : Type 0
LocksAreSearchable =
    (t : Table) (i : ℕ) → IsSound t → HasName t i (codes ".locks") →
    IsRow t (codes ".locks") table_kind i × HoldsLocksAlone (table_of t i)

-- ---- the names of values

-- a value's name is the path of a key
abbrev pub ValuesAreAtKeys : Type 0
ValuesAreAtKeys = (t : Table) (name : List ℕ) (i : ℕ) → IsSound t → HasName t i name → (item t i).kind ≡ value_kind → IsTrue (is_key_path name)

-- a directory with whose name a value's name starts has a list
abbrev pub DirectoriesAreListed : Type 0
DirectoriesAreListed =
    (t : Table) (directory rest : List ℕ) (v : ℕ) → IsSound t → IsTrue (ends_with_slash directory) →
    HasName t v (directory ++ rest) → (item t v).kind ≡ value_kind → (i : ℕ) × IsRow t directory list_kind i

-- ---- the list of a directory

-- the name of a value starts with the directory's, and this is the first part of what follows
abbrev pub IsPartBelow : Table → List ℕ → List ℕ → Type 0
IsPartBelow t directory part =
    (rest : List ℕ) × (bytes : List ℕ) × Rows t (directory ++ rest) value_kind bytes × (part ≡ first_part rest)

-- the keys in a directory's list are just these parts
abbrev pub ListsFirstParts : Type 0
ListsFirstParts =
    (t : Table) (directory : List ℕ) (i : ℕ) (part : List ℕ) → IsSound t → IsRow t directory list_kind i →
    Contains (keys_in_list t i) part ↔ IsPartBelow t directory part

-- they are texts
abbrev pub ListsTexts : Type 0
ListsTexts =
    (t : Table) (directory : List ℕ) (i : ℕ) (part : List ℕ) → IsSound t → IsRow t directory list_kind i →
    Contains (keys_in_list t i) part → IsUtf8 part

-- and no two of them are the same
abbrev pub ListsPartsOnce : Type 0
ListsPartsOnce =
    (t : Table) (directory : List ℕ) (i : ℕ) → IsSound t → IsRow t directory list_kind i →
    AllPairs (λ a b. a ≢ b) (keys_in_list t i)

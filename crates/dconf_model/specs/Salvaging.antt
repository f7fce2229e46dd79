-- What is salvaged of a database that may not be sound: for each path the lowest item, and the lowest table of locks.
use Rattle.std.specs.Prelude.{◌≡◌, ◌≤◌, ◌↔◌, ℕ, List, Some, IsTrue, IsUtf8, codes}
use Rattle.std.specs.FinMap.{get, contains_key}
use Rattle.dconf_model.specs.Paths.{is_path, is_key_path}
use Rattle.dconf_model.specs.Settings.{Settings}
use Rattle.dconf_model.specs.Table.{Table, Opens, item, bytes_of, value_kind, table_kind, table_of}
use Rattle.dconf_model.specs.Names.{HasName, IsRow}
use Rattle.dconf_model.specs.Opening.{root_of}

-- A path is a text: a name whose bytes are no UTF-8 spells none.
abbrev pub IsKeyText : List ℕ → Type 0
IsKeyText path = IsUtf8 path × IsTrue (is_key_path path)

abbrev pub IsPathText : List ℕ → Type 0
IsPathText path = IsUtf8 path × IsTrue (is_path path)

-- the lowest item that has P
pub record IsLowest (P : ℕ → Type 0) (i : ℕ) : Type 0 where
  pub has : P i
  pub lowest : (j : ℕ) → P j → i ≤ j

-- the bytes of the lowest value of that name whose pointer is valid
abbrev pub IsLowestValue : Table → List ℕ → List ℕ → Type 0
IsLowestValue t path bytes = (i : ℕ) × IsLowest (IsRow t path value_kind) i × (bytes_of t i ≡ bytes)

-- a table of locks that opens
pub record IsOpenLocks (t : Table) (i : ℕ) : Type 0 where
  pub named : HasName t i (codes ".locks")
  pub of_kind : (item t i).kind ≡ table_kind
  pub opens : Opens (table_of t i)

-- the lowest such table names this, by an item of a value, wherever its pointer leads
pub record LowestNames (t : Table) (path : List ℕ) : Type 0 where
  pub locks : ℕ
  pub is_lowest : IsLowest (IsOpenLocks t) locks
  pub lock : ℕ
  pub named : HasName (table_of t locks) lock path
  pub of_kind : (item (table_of t locks) lock).kind ≡ value_kind

pub record IsSalvaged (file : List ℕ) (s : Settings) : Type 0 where
  pub values : (path bytes : List ℕ) → (get s.values path ≡ Some bytes) ↔ (IsKeyText path × IsLowestValue (root_of file) path bytes)
  pub locks : (path : List ℕ) → IsTrue (contains_key s.locks path) ↔ (IsPathText path × LowestNames (root_of file) path)

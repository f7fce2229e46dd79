-- What one item gives to the settings that are salvaged.
use Rattle.std.specs.Prelude.{◌≡◌, ◌<◌, ◌⊎◌, ◌↔◌, ℕ, List, Some, IsTrue, IsUtf8, length}
use Rattle.std.specs.FinMap.{get, contains_key}
use Rattle.refused.specs.declared.Refused.{Refused}
use Rattle.refused.specs.declared.Refused.TheVariants.{Fault, Memory}
use Rattle.dconf_model.specs.Settings.{Settings, with_value}
use Rattle.dconf_model.specs.Table.{Table, item, item_count, HasBytes, bytes_of, value_kind, table_of}
use Rattle.dconf_model.specs.Names.{HasName, IsRow}
use Rattle.dconf_model.specs.Opening.{IsDatabase, IsOpenFault}
use Rattle.dconf_model.specs.Salvaging.{IsKeyText, IsPathText, IsLowest, IsLowestValue, IsOpenLocks}
use Rattle.gvdb_format.specs.Faults.{open_fault_of}
use Rattle.gvdb_format.specs.declared.fault.OpenFault.{OpenFault}

-- why nothing is salvaged: memory is asked for in a database that opens, and there alone
abbrev pub IsSalvageRefusal : List ℕ → Refused OpenFault → Type 0
IsSalvageRefusal file (Fault fault) = IsOpenFault file (open_fault_of fault)
IsSalvageRefusal file Memory = IsDatabase file

-- each path of a key has the bytes of its lowest value
abbrev pub HasLowestValues : Table → Settings → Type 0
HasLowestValues t s = (path bytes : List ℕ) → (get s.values path ≡ Some bytes) ↔ (IsKeyText path × IsLowestValue t path bytes)

-- item i has no full name that is a text and no longer than a path
abbrev pub HasNoShortText : Table → ℕ → Type 0
HasNoShortText t i = (name : List ℕ) → HasName t i name → IsUtf8 name → 65535 < length name

-- item i is a value whose pointer is valid
pub record IsPointed (t : Table) (i : ℕ) : Type 0 where
  pub counted : i < item_count t
  pub of_kind : (item t i).kind ≡ value_kind
  pub valid : HasBytes t i

-- item i gives its bytes to the path of a key that it spells, if it spells one
abbrev pub TakesValue : Table → ℕ → Settings → Settings → Type 0
TakesValue t i old new =
    (new ≡ old) × ((path : List ℕ) → IsKeyText path → ¬ IsRow t path value_kind i)
    ⊎ ((path : List ℕ) × IsKeyText path × IsRow t path value_kind i × (new ≡ with_value old path (bytes_of t i)))

-- item i of a table of locks spells this path
pub record SpellsLock (t : Table) (i : ℕ) (path : List ℕ) : Type 0 where
  pub text : IsPathText path
  pub named : HasName t i path
  pub of_kind : (item t i).kind ≡ value_kind

-- item i locks the path that it spells
pub record TakesLock (t : Table) (i : ℕ) (old new : Settings) : Type 0 where
  pub locks : (path : List ℕ) → IsTrue (contains_key new.locks path) ↔ (IsTrue (contains_key old.locks path) ⊎ SpellsLock t i path)
  pub same_values : new.values ≡ old.values

-- the lowest table of locks that opens
abbrev pub IsLowestLocks : Table → Table → Type 0
IsLowestLocks t locks = (i : ℕ) × IsLowest (IsOpenLocks t) i × (locks ≡ table_of t i)

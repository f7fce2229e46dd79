-- What a database says of settings, and the database that is written for settings.
-- dconf(7), "Databases"; gvdb-format.h, as in Table and Sound.
use Rattle.std.specs.Prelude.{◌≡◌, ◌≤◌, ◌<◌, ◌↔◌, ℕ, zero, suc, List, [], ◌∷◌, ◌++◌, length, Option, Some, None, Result, Ok, Err, IsTrue, codes, ◌==◌, if◌then◌else◌}
use Rattle.std.specs.Str.{bytes_eq}
use Rattle.std.specs.FinMap.{contains_key, from_entries}
use Rattle.dconf_model.specs.Bytes.{longest_file}
use Rattle.dconf_model.specs.Paths.{is_path}
use Rattle.dconf_model.specs.Settings.{Settings, IsSettings, Lock, no_settings}
use Rattle.dconf_model.specs.Table.{Table, table_of, item, item_count, bytes_of, value_kind}
use Rattle.dconf_model.specs.Names.{HasName, name_of}
use Rattle.dconf_model.specs.Opening.{OpenFault, IsDatabase, IsOpenFault, root_of}
use Rattle.dconf_model.specs.Sound.{Rule, IsSound, IsFirstFault}
use Rattle.dconf_model.specs.Plans.{HoldsValues, HoldsLocks, HasLength}
use Rattle.dconf_model.specs.Causes.SettingsCause.{too_big}
use Rattle.dconf_model.specs.Sources.{Source, File, FileFault, given, AreGiven, taken, first_file, Given}

-- ---- what bytes are: no database for its first fault, a sound one, or one that breaks a rule

pub data Verdict : Type 0 where
  no_database : OpenFault → Verdict
  sound : Verdict
  unsound : Rule → Option ℕ → Verdict

abbrev pub IsVerdict : List ℕ → Verdict → Type 0
IsVerdict file (no_database f) = IsOpenFault file f
IsVerdict file sound = IsDatabase file × IsSound (root_of file)
IsVerdict file (unsound rule at) = IsDatabase file × IsFirstFault (root_of file) rule at

-- ---- what a sound database says

-- `.locks` names this
abbrev pub NamesLock : Table → List ℕ → Type 0
NamesLock t path = (i : ℕ) × HasName t i (codes ".locks") × ((j : ℕ) × HasName (table_of t i) j path)

-- The values are its rows of values; the locks are the names in `.locks` that are paths.
pub record Says (file : List ℕ) (s : Settings) : Type 0 where
  pub values : HoldsValues (root_of file) s
  pub locks : (path : List ℕ) → IsTrue (contains_key s.locks path) ↔ (IsTrue (is_path path) × NamesLock (root_of file) path)

-- ---- the same, computed

-- what so many items give, in their order
abbrev pub gathered : {X : Type 0} → (ℕ → List X) → ℕ → List X
gathered f zero = []
gathered f (suc i) = gathered f i ++ f i

-- an item of this name gives its row, if it is a value
abbrev pub row_of_value : Table → ℕ → Option (List ℕ) → List (List ℕ × List ℕ)
row_of_value t i None = []
row_of_value t i (Some name) = if (item t i).kind == value_kind then (name, bytes_of t i) ∷ [] else []

abbrev pub value_rows : Table → List (List ℕ × List ℕ)
value_rows t = gathered (λ i. row_of_value t i (name_of t i)) (item_count t)

-- each name that is a path is a lock
abbrev pub lock_of_name : Option (List ℕ) → List (List ℕ × Lock)
lock_of_name None = []
lock_of_name (Some name) = if is_path name then (name, tt) ∷ [] else []

abbrev pub named_locks : Table → List (List ℕ × Lock)
named_locks t = gathered (λ i. lock_of_name (name_of t i)) (item_count t)

-- an item of this name gives the locks of its table, if it is `.locks`
abbrev pub locks_of_item : Table → ℕ → Option (List ℕ) → List (List ℕ × Lock)
locks_of_item t i None = []
locks_of_item t i (Some name) = if bytes_eq name (codes ".locks") then named_locks (table_of t i) else []

abbrev pub lock_rows : Table → List (List ℕ × Lock)
lock_rows t = gathered (λ i. locks_of_item t i (name_of t i)) (item_count t)

abbrev pub settings_in : List ℕ → Settings
settings_in file = record { values = from_entries (value_rows (root_of file)); locks = from_entries (lock_rows (root_of file)) }

abbrev pub SaysWhatIsInIt : Type 0
SaysWhatIsInIt = (file : List ℕ) → IsDatabase file → IsSound (root_of file) → Says file (settings_in file)

-- its values are at the paths of keys, and its locks are paths
abbrev pub SaysSettings : Type 0
SaysSettings = (file : List ℕ) (s : Settings) → IsSound (root_of file) → Says file s → IsSettings s

abbrev pub SaysOneThing : Type 0
SaysOneThing = (file : List ℕ) (s t : Settings) → Says file s → Says file t → s ≡ t

-- ---- a database that is written for settings

pub record IsDatabaseOf (s : Settings) (file : List ℕ) : Type 0 where
  pub opens : IsDatabase file
  pub sound : IsSound (root_of file)
  pub values : HoldsValues (root_of file) s
  pub locks : HoldsLocks (root_of file) s
  pub size : HasLength s (length file)
  pub fits : length file ≤ longest_file

-- settings whose database would have too many bytes
abbrev pub IsTooBig : Settings → Type 0
IsTooBig s = (n : ℕ) × HasLength s n × (longest_file < n)

-- where all of its locks are paths, it says just these settings
abbrev pub WrittenSaysSettings : Type 0
WrittenSaysSettings =
    (s : Settings) (file : List ℕ) → ((path : List ℕ) → IsTrue (contains_key s.locks path) → IsTrue (is_path path)) →
    IsDatabaseOf s file → Says file s

-- ---- the databases of a profile, each the bytes of its file or none

-- what a database says
abbrev pub IsLayer : Option (List ℕ) → Settings → Type 0
IsLayer None s = s ≡ no_settings
IsLayer (Some file) s = IsDatabase file × IsSound (root_of file) × Says file s

abbrev pub AreLayers : List (Option (List ℕ)) → List Settings → Type 0
AreLayers [] [] = Unit {0}
AreLayers (item ∷ items) (s ∷ ss) = IsLayer item s × AreLayers items ss
AreLayers _ _ = ⊥

abbrev pub IsGood : Option (List ℕ) → Type 0
IsGood None = Unit {0}
IsGood (Some file) = IsDatabase file × IsSound (root_of file)

abbrev pub IsBad : Option (List ℕ) → Verdict → Type 0
IsBad None v = ⊥
IsBad (Some file) sound = ⊥
IsBad (Some file) v = IsVerdict file v

-- the first that is no sound database, and what it is
abbrev pub IsFirstBad : List (Option (List ℕ)) → ℕ → Verdict → Type 0
IsFirstBad [] i v = ⊥
IsFirstBad (item ∷ items) zero v = IsBad item v
IsFirstBad (item ∷ items) (suc i) v = IsGood item × IsFirstBad items i v

-- ---- compiling

-- what is made of settings: their database, unless it is too big, which is said of the first file
abbrev pub IsMadeOf : Settings → File → Result (List ℕ) FileFault → Type 0
IsMadeOf s first (Ok file) = IsDatabaseOf s file
IsMadeOf s first (Err f) = IsTooBig s × (f ≡ record { file = first; line = 0; cause = too_big })

abbrev pub IsMadeOfGiven : Result Given FileFault → File → Result (List ℕ) FileFault → Type 0
IsMadeOfGiven (Err f) first r = r ≡ Err f
IsMadeOfGiven (Ok g) first r = (s : Settings) × AreGiven g s × IsMadeOf s first r

-- the database of keyfiles and lock files, or the first fault
abbrev pub IsCompiled : List Source → List Source → Result (List ℕ) FileFault → Type 0
IsCompiled files locks r = IsMadeOfGiven (given files locks) (first_file (taken files)) r

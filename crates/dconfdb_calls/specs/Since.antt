-- Whether something else is seen by now at the paths of changes.
use Rattle.std.specs.Prelude.{◌≡◌, ◌<◌, ◌++◌, ℕ, List, Bool, true, false, Contains, IsTrue, Option, None, Some, slice_get}
use Rattle.std.specs.List.{list_any}
use Rattle.dconf_model.specs.Layers.{Layers, all_paths}
use Rattle.dconf_model.specs.Locks.{is_below}
use Rattle.dconf_model.specs.Paths.{ends_with_slash}
use Rattle.dconf_model.specs.Salvaging.{IsKeyText}
use Rattle.dconf_differences.specs.Differing.{AreDiffering, Differs}
use Rattle.dconfdb_calls.specs.declared.changes.DconfdbChange.{DconfdbChange}
use Rattle.dconfdb_calls.specs.Given.{IsDirectory}

-- below the directory lies a key, of a database of either, that is seen otherwise
pub record IsChangedBelow (l m : Layers) (directory : List ℕ) : Type 0 where
  pub path : List ℕ
  pub key : Contains (all_paths l.layers ++ all_paths m.layers) path
  pub below : IsTrue (is_below path directory)
  pub differs : Differs l m path

abbrev pub IsChangedAt : Bool → Layers → Layers → List ℕ → Type 0
IsChangedAt true l m directory = IsDirectory directory × IsChangedBelow l m directory
IsChangedAt false l m path = IsKeyText path × Differs l m path

-- what is seen at a key's path differs, or whether it is locked; of a path that ends in `/`, at some key below it
abbrev pub IsChangedSince : Layers → Layers → List ℕ → Type 0
IsChangedSince l m path = IsChangedAt (ends_with_slash path) l m path

-- one of the changes is of a directory
abbrev pub has_directory : List DconfdbChange → Bool
has_directory changes = list_any (λ c. ends_with_slash c.path.now) changes

-- the keys that differ, if a change asks for them
abbrev pub AreDifferingIfAsked : Layers → Layers → List DconfdbChange → List (List ℕ) → Type 0
AreDifferingIfAsked l m changes paths = has_directory changes ≡ true → AreDiffering l m (all_paths l.layers ++ all_paths m.layers) paths

-- the change of that index is the first at whose path something else is seen
pub record IsFirstAt (l m : Layers) (changes : List DconfdbChange) (at : ℕ) : Type 0 where
  pub change : DconfdbChange
  pub is : slice_get changes at ≡ Some change
  pub changed : IsChangedSince l m change.path.now
  pub earlier : (i : ℕ) (c : DconfdbChange) → i < at → slice_get changes i ≡ Some c → ¬ IsChangedSince l m c.path.now

abbrev pub IsFirstSince : Layers → Layers → List DconfdbChange → Option ℕ → Type 0
IsFirstSince l m changes None = (i : ℕ) (c : DconfdbChange) → slice_get changes i ≡ Some c → ¬ IsChangedSince l m c.path.now
IsFirstSince l m changes (Some at) = IsFirstAt l m changes at

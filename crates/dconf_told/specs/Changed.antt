-- What a program is told after a look at the files, and what is remembered of what others changed between two looks.
use Rattle.std.specs.Prelude.{◌≡◌, ◌≢◌, ◌⊎◌, ◌↔◌, ◌++◌, ◌&&◌, ℕ, IsTrue, Bool, List, [], Contains, drop, false, not, take, true}
use Rattle.dconf_model.specs.Layers.{Layers, all_paths, visible}
use Rattle.dconf_model.specs.Paths.{starts_with_slash}
use Rattle.dconf_differences.specs.Differing.{AreDiffering, Differs, first_keys}
use Rattle.dconf_seen.specs.Waiting.{may_write}
use Rattle.dconf_told.specs.Files.{are_other_files}
use Rattle.dconf_told.specs.Relocking.{locks_in}
use Rattle.dconf_told.specs.declared.files.DconfdbFileSeen.{DconfdbFileSeen}

-- ---- whether anything is otherwise

-- a key that has a value in some layer shows another one, or none, or is locked on one side alone
abbrev pub SomeKeyDiffers : Layers → Layers → Type 0
SomeKeyDiffers l m = (path : List ℕ) × Contains (all_paths l.layers ++ all_paths m.layers) path × Differs l m path

-- it is said whether there is one
pub record TellsOfKeys (is : Bool) (l m : Layers) : Type 0 where
  pub says : IsTrue is ↔ SomeKeyDiffers l m

abbrev pub HasOtherLocks : Layers → Layers → Type 0
HasOtherLocks l m = locks_in (drop 1 l.layers) ≢ locks_in (drop 1 m.layers)

-- Nobody could write and somebody can, or the other way round; or a file is another one; or other locks count; or a key is seen otherwise.
abbrev pub IsChanged : Layers → Layers → List DconfdbFileSeen → List DconfdbFileSeen → Type 0
IsChanged l m fs gs = (l.writable ≢ m.writable) ⊎ ((are_other_files fs gs ≡ true) ⊎ (HasOtherLocks l m ⊎ SomeKeyDiffers l m))

-- it is said whether anything is
pub record TellsOfChange (is : Bool) (l m : Layers) (fs gs : List DconfdbFileSeen) : Type 0 where
  pub says : IsTrue is ↔ IsChanged l m fs gs

-- whoever is told of a value, or of whether a path may be written, is told of a change
abbrev pub WhatIsToldIsAChange : Type 0
WhatIsToldIsAChange = (l m : Layers) (fs gs : List DconfdbFileSeen) (path : List ℕ) →
    (visible l path ≢ visible m path) ⊎ ((starts_with_slash path ≡ true) × (may_write l path ≢ may_write m path)) → IsChanged l m fs gs

-- ---- what is remembered

-- the first layer alone, which has the user's values
abbrev pub users_alone : Layers → Layers
users_alone l = record { layers = take 1 l.layers; writable = true }

-- both first layers are the user's, and who left the later one noted nothing of what it changed
abbrev pub is_to_remember : Layers → Layers → Bool → Bool
is_to_remember l m is_noted = l.writable && (m.writable && not is_noted)

-- Then it is each key of which the first layers have another value, or that only one of them has.
abbrev pub remembers : Bool → Layers → Layers → List (List ℕ) → Type 0
remembers true l m paths = AreDiffering (users_alone m) (users_alone l) (first_keys 1 (users_alone m) ++ first_keys 1 (users_alone l)) paths
remembers false l m paths = paths ≡ []

abbrev pub AreRemembered : Layers → Layers → Bool → List (List ℕ) → Type 0
AreRemembered l m is_noted paths = remembers (is_to_remember l m is_noted) l m paths

-- ---- the same layers

-- Of layers and themselves nothing is told, and nothing remembered: who knows that they are the same needn't ask.
pub record NothingDiffers (l : Layers) (fs : List DconfdbFileSeen) : Type 0 where
  pub unchanged : ¬ IsChanged l l fs fs
  pub forgotten : (is_noted : Bool) (paths : List (List ℕ)) → AreRemembered l l is_noted paths → paths ≡ []

abbrev pub OfItselfNothingDiffers : Type 0
OfItselfNothingDiffers = (l : Layers) (fs : List DconfdbFileSeen) → NothingDiffers l fs

-- A store that is saved and opened again is seen as before.
use Rattle.std.specs.Prelude.{◌≡◌, ℕ, List, ◌∷◌, Some}
use Rattle.dconf_model.specs.Bytes.{MaybeBytes}
use Rattle.dconf_model.specs.Settings.{Settings}
use Rattle.dconf_model.specs.Databases.{AreLayers, IsDatabaseOf}
use Rattle.dconf_model.specs.Layers.{Layers, visible, origin, child_names, locks_below}
use Rattle.dconf_model.specs.Changes.{saved}

-- layers of which the first was saved as this file, opened again with the same other databases
pub record IsReopened (others : List MaybeBytes) (l : Layers) (file : List ℕ) (m : Layers) : Type 0 where
  pub first : Settings
  pub later : List Settings
  pub layers : l.layers ≡ first ∷ later
  pub others_are : AreLayers others later
  pub saved_is : IsDatabaseOf (saved l.layers) file
  pub opened : AreLayers (Some file ∷ others) m.layers
  pub writable : m.writable ≡ l.writable

pub record IsSeenAlike (l m : Layers) : Type 0 where
  pub values : (path : List ℕ) → visible m path ≡ visible l path
  pub origins : (path : List ℕ) → origin m path ≡ origin l path
  pub children : (directory : List ℕ) → child_names m directory ≡ child_names l directory
  pub locks : (directory : List ℕ) → locks_below m directory ≡ locks_below l directory

-- law: nothing that is seen changes
abbrev pub ReopenedIsSame : Type 0
ReopenedIsSame = (others : List MaybeBytes) (l : Layers) (file : List ℕ) (m : Layers) → IsReopened others l file m → IsSeenAlike l m

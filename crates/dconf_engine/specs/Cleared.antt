-- The paths whose values go where all below a directory are reset.
use Rattle.std.specs.Prelude.{ℕ, List, [], ◌∷◌, Option, Bool, true, filter, not, map, if◌then◌else◌}
use Rattle.dconf_model.specs.Layers.{Layers, is_locked}
use Rattle.dconf_model.specs.Locks.{is_below}
use Rattle.dconf_layers.specs.declared.layer.Layer.{Layer}
use Rattle.dconf_layers.specs.LayerRows.{layer_paths}

-- one elsewhere keeps its value, and a locked one does
abbrev pub keeps : Layers → List ℕ → List ℕ → Bool
keeps l directory path = if is_below path directory then is_locked l path else true

-- the others of these
abbrev pub cleared : Layers → List ℕ → List (List ℕ) → List (List ℕ)
cleared l directory paths = filter (λ path. not (keeps l directory path)) paths

-- the paths of changes
abbrev pub changed_paths : List (List ℕ × Option (List ℕ)) → List (List ℕ)
changed_paths changes = map (λ c. c.0) changes

-- the paths of the first layer
abbrev pub first_paths : List Layer → List (List ℕ)
first_paths [] = []
first_paths (layer ∷ more) = layer_paths layer

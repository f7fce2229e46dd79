-- Rows that are loaded.
use Rattle.std.specs.Prelude.{◌≡◌, Bool, List, Ok, map, filter, not}
use Rattle.gv_model.specs.Tree.{Tree}
use Rattle.dconf_path.specs.declared.path.KeyPath.{KeyPath}
use Rattle.dconf_path.specs.Paths.{key_text}
use Rattle.dconf_model.specs.Changes.{apply, saved}
use Rattle.dconf_model.specs.Changes.Change.{load_values}
use Rattle.dconf_model.specs.Layers.{Layers, is_locked}
use Rattle.dconf_model.specs.Settings.{Settings}
use Rattle.dconf_model.specs.Sources.{Assigned}

-- the path and the value of each row
abbrev pub assigned_of : KeyPath × Tree → Assigned
assigned_of row = record { path = key_text row.0; value = row.1 }

abbrev pub rows_of : List (KeyPath × Tree) → List Assigned
rows_of rows = map assigned_of rows

-- the rows whose paths are not locked
abbrev pub not_locked : Layers → List Assigned → List Assigned
not_locked l rows = filter (λ row. not (is_locked l row.path)) rows

-- the settings that are saved once rows are loaded, which are accepted
abbrev pub IsLoaded : Layers → List Assigned → Bool → Settings → Type 0
IsLoaded l rows force s = (new : Layers) × (apply l (load_values rows force) ≡ Ok new) × (s ≡ saved new.layers)

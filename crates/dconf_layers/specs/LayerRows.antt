-- The rows of a layer: the items of its root table that are values, and those of its table of locks that are paths.
use Rattle.std.specs.FinMap.{get}
use Rattle.std.specs.List.{All}
use Rattle.std.specs.Prelude.{◌≡◌, ℕ, zero, suc, ◌+◌, List, [], ◌++◌, Option, Some, None, map, ◌==◌, if◌then◌else◌, ◌∷◌, filter}
use Rattle.dconf_model.specs.Databases.{row_of_value, value_rows}
use Rattle.dconf_model.specs.Names.{name_of}
use Rattle.dconf_model.specs.Table.{Table as Region, bytes_of, item, item_count, value_kind}
use Rattle.gvdb_read.specs.Tables.{region}
use Rattle.dconf_layers.specs.declared.layer.Layer.{Layer}
use Rattle.dconf_layers.specs.LayerSettings.{settings_of}
use Rattle.dconf_model.specs.Locks.{is_below}
use Rattle.dconf_model.specs.Paths.{is_path}
use Rattle.gvdb_read.specs.declared.table.Table.{Table}

abbrev pub items_of : Layer → ℕ
items_of layer = item_count (region layer.values)

-- the bytes of item i, if it is a value
abbrev pub value_in : Layer → ℕ → Option (List ℕ)
value_in layer i = if (item (region layer.values) i).kind == value_kind then Some (bytes_of (region layer.values) i) else None

-- the path and the bytes of item i, if it is a value
abbrev pub row_at : Region → ℕ → List (List ℕ × List ℕ)
row_at t i = row_of_value t i (name_of t i)

-- those of so many items from one on
abbrev pub rows_from : Region → ℕ → ℕ → List (List ℕ × List ℕ)
rows_from t i zero = []
rows_from t i (suc n) = row_at t i ++ rows_from t (i + 1) n

abbrev pub layer_rows : Layer → List (List ℕ × List ℕ)
layer_rows layer = value_rows (region layer.values)

-- the layer has the bytes of each row at its path
abbrev pub AreOf : Layer → List (List ℕ × List ℕ) → Type 0
AreOf layer rows = All (λ row. get (settings_of layer).values row.0 ≡ Some row.1) rows

abbrev pub paths_of : List (List ℕ × List ℕ) → List (List ℕ)
paths_of rows = map {B = List ℕ} (λ row. row.0) rows

abbrev pub layer_paths : Layer → List (List ℕ)
layer_paths layer = paths_of (layer_rows layer)

-- a name, if it is a path
abbrev pub lock_name : Option (List ℕ) → List (List ℕ)
lock_name None = []
lock_name (Some name) = if is_path name then name ∷ [] else []

-- how many items a table has that may be missing
abbrev pub lock_count : Option Table → ℕ
lock_count None = 0
lock_count (Some locks) = item_count (region locks)

-- the name of item i
abbrev pub lock_name_at : Option Table → ℕ → List (List ℕ)
lock_name_at None i = []
lock_name_at (Some locks) i = lock_name (name_of (region locks) i)

-- those that start with a directory
abbrev pub locks_under : List ℕ → List (List ℕ) → List (List ℕ)
locks_under directory locks = filter (λ lock. is_below lock directory) locks

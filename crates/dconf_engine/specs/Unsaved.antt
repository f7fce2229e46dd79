-- Changes of the first layer's values that are not saved yet, and the values with them.
use Rattle.std.specs.Prelude.{ℕ, List, [], ◌∷◌, Option, Some, None, fold}
use Rattle.std.specs.Coded.{Coded, coded_list, coded_ℕ, coded_option}
use Rattle.std.specs.FinMap.{insert, remove, entries, code}
use Rattle.dconf_model.specs.Settings.{AtPaths}
use Rattle.dconf_model.specs.Changes.{Values}
use Rattle.dconf_model.specs.Sources.{Assigned}
use Rattle.dconf_model.specs.Values.{stored}
use Rattle.dconf_engine.specs.declared.changes.Edit.{Edit}
use Rattle.dconf_engine.specs.declared.changes.Edit.TheVariants.{Set, Reset}

-- what was done at a path: the bytes that it was set to, or none where it was reset
abbrev pub edit_bytes : Edit → Option (List ℕ)
edit_bytes (Set bytes) = Some bytes.items
edit_bytes Reset = None

-- at each path that was changed the bytes that it was set to, or none where it was reset
abbrev pub Unsaved : Type 0
Unsaved = AtPaths (Option (List ℕ))

abbrev pub unsaved_code : Coded Unsaved
unsaved_code = code (coded_list coded_ℕ) (coded_option (coded_list coded_ℕ))

-- ---- values with changes

-- with a path set to these bytes, or reset
abbrev pub with_change : Values → List ℕ → Option (List ℕ) → Values
with_change values path (Some bytes) = insert values path bytes
with_change values path None = remove values path

-- with these changes, of which each is of another path
abbrev pub with_each : List (List ℕ × Option (List ℕ)) → Values → Values
with_each [] values = values
with_each (c ∷ more) values = with_change (with_each more values) c.0 c.1

abbrev pub with_changes : Unsaved → Values → Values
with_changes changes values = with_each (entries changes) values

-- ---- more changes

-- with these rows set
abbrev pub and_rows : List Assigned → Unsaved → Unsaved
and_rows rows changes = fold (λ c row. insert c row.path (Some (stored row.value))) changes rows

-- with these paths reset
abbrev pub and_resets : List (List ℕ) → Unsaved → Unsaved
and_resets paths changes = fold (λ c path. insert c path None) changes paths

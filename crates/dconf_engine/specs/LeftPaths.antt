-- The paths at which the first layer has a value: those that were not changed, and those that were set.
use Rattle.std.specs.Prelude.{ℕ, List, Option, Some, None, Bool, false, filter, fold, not, if◌then◌else◌}
use Rattle.std.specs.List.{list_any}
use Rattle.std.specs.FinMap.{contains_key, entries, keys}
use Rattle.dconf_model.specs.Locks.{is_below}
use Rattle.dconf_layers.specs.declared.layer.Layer.{Layer}
use Rattle.dconf_layers.specs.LayerRows.{layer_paths}
use Rattle.dconf_layers.specs.LayerSettings.{settings_of}
use Rattle.dconf_layers.specs.TextSets.{TextSet, with_child}
use Rattle.dconf_engine.specs.Unsaved.{Unsaved}

-- of paths those that were not changed
abbrev pub unchanged_of : Unsaved → List (List ℕ) → List (List ℕ)
unchanged_of changes paths = filter (λ path. not (contains_key changes path)) paths

-- with the name in a directory of a path that was set
abbrev pub with_set_child : List ℕ → TextSet → List ℕ → Option (List ℕ) → TextSet
with_set_child directory set path (Some bytes) = with_child directory set path
with_set_child directory set path None = set

abbrev pub with_set_children : List ℕ → List (List ℕ × Option (List ℕ)) → TextSet → TextSet
with_set_children directory changes set = fold (λ s c. with_set_child directory s c.0 c.1) set changes

-- a change that resets a path below a directory
abbrev pub is_reset_below : List ℕ → List ℕ → Option (List ℕ) → Bool
is_reset_below directory path (Some bytes) = false
is_reset_below directory path None = is_below path directory

abbrev pub has_reset_below : List ℕ → Unsaved → Bool
has_reset_below directory changes = list_any (λ c. is_reset_below directory c.0 c.1) (entries changes)

-- Paths that a layer has, those that were reset below the directory left out. Elsewhere some of them may be among these.
abbrev pub base_paths : List ℕ → Unsaved → Layer → List (List ℕ)
base_paths directory changes layer =
    if has_reset_below directory changes then unchanged_of changes (layer_paths layer) else keys (settings_of layer).values

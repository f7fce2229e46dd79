-- The settings that are saved, as they are put together: what a layer has at paths that were not changed, what was set, and rows.
use Rattle.std.specs.Prelude.{ℕ, List, Option, Some, None, fold, cond}
use Rattle.std.specs.FinMap.{contains_key}
use Rattle.dconf_model.specs.Settings.{Settings, with_value}
use Rattle.dconf_engine.specs.Unsaved.{Unsaved}

abbrev pub set_if : Settings → List ℕ → Option (List ℕ) → Settings
set_if s path (Some bytes) = with_value s path bytes
set_if s path None = s

-- with these bytes at a path, if there are any, unless it was changed
abbrev pub unless_changed : Unsaved → Settings → List ℕ → Option (List ℕ) → Settings
unless_changed changes s path bytes = set_if s path (cond (contains_key changes path) None bytes)

-- with these rows, paths and bytes, of which those are left out that were changed
abbrev pub with_unchanged : Unsaved → List (List ℕ × List ℕ) → Settings → Settings
with_unchanged changes rows s = fold (λ s row. unless_changed changes s row.0 (Some row.1)) s rows

-- with each path set that was set
abbrev pub with_sets : List (List ℕ × Option (List ℕ)) → Settings → Settings
with_sets changes s = fold (λ s c. set_if s c.0 c.1) s changes

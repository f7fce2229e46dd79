-- Which edits may be made. A lock refuses what sets a key or takes its value away; a directory is reset in spite of the locks in it.
use Rattle.std.specs.Prelude.{◌≡◌, ℕ, Bool, true, false, List, Result, Ok, Err, not, ◌&&◌, ◌||◌}
use Rattle.gv_model.specs.Tree.{Tree}
use Rattle.dconf_model.specs.Changes.{Refusal, apply}
use Rattle.dconf_model.specs.Changes.Change.{set_value, reset_value, reset_below_directory}
use Rattle.dconf_model.specs.Layers.{Layers}
use Rattle.dconf_model.specs.Paths.{ends_with_slash}
use Rattle.dconf_model.specs.Values.{is_storable}
use Rattle.dconf_seen.specs.Waiting.{may_write}

-- there is a user's database that may be changed, and the path may be written, or it is a directory that is reset
abbrev pub may_be_made : List ℕ → Bool → Bool → Bool → Bool
may_be_made path sets is_open may = is_open && (may || (not sets && ends_with_slash path))

-- ---- the law

abbrev pub is_taken : Result Layers Refusal → Bool
is_taken (Ok after) = true
is_taken (Err why) = false

-- what a store takes of one edit
pub record IsAllowed (l : Layers) (path : List ℕ) : Type 0 where
  pub set : (v : Tree) → is_storable v ≡ true → is_taken (apply l (set_value path v)) ≡ may_be_made path true l.writable (may_write l path)
  pub reset : ends_with_slash path ≡ false → is_taken (apply l (reset_value path)) ≡ may_be_made path false l.writable (may_write l path)
  pub directory : ends_with_slash path ≡ true → is_taken (apply l (reset_below_directory path)) ≡ may_be_made path false l.writable (may_write l path)

abbrev pub EditsAreAllowed : Type 0
EditsAreAllowed = (l : Layers) (path : List ℕ) → IsAllowed l path

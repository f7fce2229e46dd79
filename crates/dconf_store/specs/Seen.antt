-- What a store has become, and what is seen of it.
use Rattle.std.specs.Prelude.{◌≡◌, ◌↔◌, ℕ, Bool, List, ◌∷◌, ◌++◌, Option, Result, Ok, Err, Contains, fold}
use Rattle.std.specs.List.{AllByRecursion}
use Rattle.gv_model.specs.Tree.{Tree}
use Rattle.dconf_model.specs.Bytes.{MaybeBytes}
use Rattle.dconf_model.specs.Databases.{AreLayers, IsDatabaseOf}
use Rattle.dconf_model.specs.Layers.{Layers}
use Rattle.dconf_model.specs.Changes.{Change, Refusal, apply, saved}
use Rattle.dconf_model.specs.Paths.{first_part}
use Rattle.dconf_model.specs.Sources.{Given, last_value}
use Rattle.dconf_model.specs.Stores.{FilesGive, IsNamed, IsWholeChange, own_after, value_given}

-- the layers of these files
pub record AreOpened (files : List MaybeBytes) (may_write : Bool) (l : Layers) : Type 0 where
  pub layers : AreLayers files l.layers
  pub writable : l.writable ≡ may_write

-- the layers after changes, each on those that the one before it gives, or the first refusal
abbrev pub and_apply : Result Layers Refusal → Change → Result Layers Refusal
and_apply (Ok l) change = apply l change
and_apply (Err e) change = Err e

abbrev pub applied : Layers → List Change → Result Layers Refusal
applied l changes = fold and_apply (Ok l) changes

-- each change is accepted in turn, and what it sets is whole
pub record HaveChanged (l : Layers) (changes : List Change) (m : Layers) : Type 0 where
  pub accepted : applied l changes ≡ Ok m
  pub whole : AllByRecursion IsWholeChange changes

-- the layers of these files after these changes
abbrev pub AreChanged : List MaybeBytes → Bool → List Change → Layers → Type 0
AreChanged files writable changes m = (l : Layers) × AreOpened files writable l × HaveChanged l changes m

-- the bytes that are saved of them
abbrev pub IsSavedAfter : List MaybeBytes → Bool → List Change → List ℕ → Type 0
IsSavedAfter files writable changes file = (l : Layers) × AreChanged files writable changes l × IsDatabaseOf (saved l.layers) file

-- each file is a sound database, each change is accepted, and what is saved is not too big
abbrev pub AreAccepted : List MaybeBytes → Bool → List Change → Type 0
AreAccepted files writable changes = (file : List ℕ) × IsSavedAfter files writable changes file

-- the value of a path is what the rows and locks of its databases, the changes and the order of the databases give
abbrev pub IsValueAfter : List MaybeBytes → List Change → List ℕ → Option Tree → Type 0
IsValueAfter files changes path v =
    (g : Given) (gs : List Given) → FilesGive files (g ∷ gs) →
    v ≡ value_given path (own_after gs (last_value g.values) changes path) gs

-- the names are the first parts of the paths below the directory that the rows and the changes name, and no others
abbrev pub AreChildrenAfter : List MaybeBytes → List Change → List ℕ → List (List ℕ) → Type 0
AreChildrenAfter files changes directory names =
    (g : Given) (gs : List Given) → FilesGive files (g ∷ gs) → (part : List ℕ) →
    Contains names part ↔ ((rest : List ℕ) × IsNamed (own_after gs (last_value g.values) changes) gs (directory ++ rest) × (part ≡ first_part rest))

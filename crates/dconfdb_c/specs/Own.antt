-- The layer that has the user's values, and what nobody may write if there is none.
use Rattle.std.specs.Prelude.{ℕ, Bool, List, [], ◌∷◌, false, take, true}
use Rattle.dconf_model.specs.Layers.{Layers, locks_below}
use Rattle.dconf_layers.specs.declared.layer.Layer.{Layer}

-- the first, if it is the user's
abbrev pub own_of : Bool → List Layer → List Layer
own_of true layers = take 1 layers
own_of false layers = []

-- what of a directory nobody may write: all of it, if there is no user's layer; else what is locked that starts with it
abbrev pub closed_below : Bool → Layers → List ℕ → List (List ℕ)
closed_below true layers directory = locks_below layers directory
closed_below false layers directory = directory ∷ []

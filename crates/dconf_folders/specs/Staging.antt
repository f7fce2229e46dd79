-- What a new file's writing does to a folder.
use Rattle.std.specs.Prelude.{ℕ, List, ◌∷◌}
use Rattle.dconf_model.specs.Folders.{Event}
use Rattle.dconf_model.specs.Folders.Event.{create, append, sync, rename, sync_folder}

-- what is done to write a new file, the last first
abbrev pub staged_onto : List Event → List ℕ → List ℕ → List Event
staged_onto es name bytes = sync name ∷ append name bytes ∷ create name ∷ es

-- what is done to put it in the place of another
abbrev pub settled_onto : List Event → List ℕ → List ℕ → List Event
settled_onto es from to = sync_folder ∷ rename from to ∷ es

-- The files of a store that is opened again.
use Rattle.std.specs.Prelude.{ℕ, List, [], ◌∷◌, Some}
use Rattle.dconf_model.specs.Bytes.{MaybeBytes}

-- the same files, but that the first is this one
abbrev pub with_first_file : List ℕ → List MaybeBytes → List MaybeBytes
with_first_file file [] = []
with_first_file file (item ∷ others) = Some file ∷ others

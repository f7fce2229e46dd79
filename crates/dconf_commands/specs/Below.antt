-- `explain DIR`: each key below a directory that a database has, in the order of their paths. Of each stands its path, and what
-- explains the key; an empty line parts it from the next.
use Rattle.std.specs.Prelude.{◌≡◌, ℕ, List, [], ◌∷◌, ◌++◌, flat_map}
use Rattle.dconf_model.specs.Explains.{explained}
use Rattle.dconf_model.specs.Layers.{Layers, all_paths}
use Rattle.dconf_model.specs.Outcomes.{Gives, UnlessFault, WithStore, done}
use Rattle.dconf_model.specs.Paths.{directory_fault}
use Rattle.dconf_model.specs.Profiles.{Database}
use Rattle.dconf_model.specs.Reads.{ReadResults}
use Rattle.dconf_model.specs.Walks.{keys_below}

-- the path as a line, and what explains the key
abbrev pub key_part : List Database → Layers → List ℕ → List ℕ
key_part databases l path = path ++ (10 ∷ explained databases l path)

-- an empty line before each
abbrev pub further_parts : List Database → Layers → List (List ℕ) → List ℕ
further_parts databases l paths = flat_map (λ path. 10 ∷ key_part databases l path) paths

-- an empty line between them
abbrev pub key_parts : List Database → Layers → List (List ℕ) → List ℕ
key_parts databases l [] = []
key_parts databases l (path ∷ more) = key_part databases l path ++ further_parts databases l more

abbrev pub explained_below : List Database → Layers → List ℕ → List ℕ
explained_below databases l directory = key_parts databases l (keys_below (all_paths l.layers) directory)

abbrev pub ExplainsBelow : List ℕ → List ℕ → ReadResults → Gives
ExplainsBelow directory profile reads =
    UnlessFault (directory_fault directory) (WithStore reads profile (λ databases l o. o ≡ done (explained_below databases l directory)))

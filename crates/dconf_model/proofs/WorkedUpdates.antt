-- Worked updates: which databases are made, and of which files.
use Rattle.std.specs.Prelude.{◌≡◌, ℕ, List, [], ◌∷◌, codes, refl}
use Rattle.dconf_model.specs.Commands.Command.{compile}
use Rattle.dconf_model.specs.Updates.{SourceFolder, updates}

abbrev folder : List ℕ → List (List ℕ) → List (List ℕ) → SourceFolder
folder name keyfiles locks = record { name = name; keyfiles = keyfiles; locks = locks }

-- what is hidden is left out
site : updates (folder (codes "site") (codes ".b" ∷ codes "a" ∷ []) (codes "l" ∷ codes ".m" ∷ []) ∷ [])
    ≡ compile (codes "site.db") (codes "site.d/locks/l" ∷ []) (codes "site.d/a" ∷ []) ∷ []
site = refl

-- a folder without files has a database without keys, and a hidden folder has none
empty : updates (folder (codes "site") [] [] ∷ folder (codes ".x") (codes "a" ∷ []) [] ∷ []) ≡ compile (codes "site.db") [] [] ∷ []
empty = refl

-- A walk over the keys below a directory: the names that the directory has are taken in their order, and what is below a
-- name comes before the next.
use Rattle.std.specs.Prelude.{◌≡◌, ◌<◌, ◌+◌, ◌*◌, ◌-◌, ℕ, List, [], ◌∷◌, ◌++◌, length, if◌then◌else◌, map, filter, flat_map, Contains, IsTrue, Option}
use Rattle.std.specs.List.{sum_by}
use Rattle.dconf_model.specs.Databases.{AreLayers}
use Rattle.dconf_model.specs.Settings.{Settings}
use Rattle.dconf_model.specs.Layers.{Layers, all_paths, parts_below, paths_below}
use Rattle.dconf_model.specs.Locks.{is_below}
use Rattle.dconf_model.specs.Order.{listing}
use Rattle.dconf_model.specs.Outcomes.{settings_at}
use Rattle.dconf_model.specs.Paths.{is_key_path, is_directory_path}

-- each is the path of a key
abbrev pub AreKeyPaths : List (List ℕ) → Type 0
AreKeyPaths paths = (path : List ℕ) → Contains paths path → IsTrue (is_key_path path)

-- the layers of databases have values at the paths of keys alone
abbrev pub LayersHaveKeyPaths : Type 0
LayersHaveKeyPaths = (items : List (Option (List ℕ))) (layers : List Settings) → AreLayers items layers → AreKeyPaths (all_paths layers)

-- the names that a directory has, in order
abbrev pub names_in : List (List ℕ) → List ℕ → List (List ℕ)
names_in paths directory = listing (parts_below directory paths)

-- the paths below a directory, in order
abbrev pub keys_below : List (List ℕ) → List ℕ → List (List ℕ)
keys_below paths directory = listing (filter (λ path. is_below path directory) paths)

-- what a walk finds at a place: the keys below it, or itself where it is no directory
abbrev pub keys_at : List (List ℕ) → List ℕ → List (List ℕ)
keys_at paths place = if is_directory_path place then keys_below paths place else place ∷ []

-- the places that a directory leads to
abbrev pub places_in : List (List ℕ) → List ℕ → List (List ℕ)
places_in paths directory = map {B = List ℕ} (λ name. directory ++ name) (names_in paths directory)

-- What is found at these, one after another, are just the keys below the directory.
abbrev pub WalkFindsEachKey : Type 0
WalkFindsEachKey =
    (paths : List (List ℕ)) (directory : List ℕ) → AreKeyPaths paths →
    flat_map (keys_at paths) (places_in paths directory) ≡ keys_below paths directory

-- ---- a walk ends

-- A number for what is left to do at a place: by how much longer than the place the paths are that are found there.
abbrev pub work_at : List (List ℕ) → List ℕ → ℕ
work_at paths place = 1 + 2 * sum_by (λ path. length path - length place) (keys_at paths place)

-- It is greater than that of the places that a directory leads to.
abbrev pub WalkEnds : Type 0
WalkEnds =
    (paths : List (List ℕ)) (directory : List ℕ) → AreKeyPaths paths → IsTrue (is_directory_path directory) →
    sum_by (work_at paths) (places_in paths directory) < work_at paths directory

-- ---- a dump by a walk

-- Of the keys that are found those without a value are passed over.
abbrev pub WalkHasEachSetting : Type 0
WalkHasEachSetting =
    (l : Layers) (directory : List ℕ) → settings_at l (keys_below (all_paths l.layers) directory) ≡ settings_at l (paths_below l directory)

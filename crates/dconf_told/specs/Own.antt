-- Which keys edits are of: who makes them isn't told of these as of what others changed.
use Rattle.std.specs.Prelude.{◌≡◌, ◌⊎◌, ◌↔◌, ◌&&◌, ◌++◌, ℕ, Bool, true, List, [], ◌∷◌, Contains, IsTrue, IsUtf8, if◌then◌else◌, map}
use Rattle.std.specs.Borrow.{Bor}
use Rattle.std.specs.List.{flat_map}
use Rattle.std.specs.Str.{is_utf8}
use Rattle.dconf_model.specs.Layers.{all_paths}
use Rattle.dconf_model.specs.Locks.{is_below}
use Rattle.dconf_model.specs.Order.{IsRising}
use Rattle.dconf_model.specs.Paths.{is_directory_path}
use Rattle.dconf_model.specs.Salvaging.{IsKeyText}
use Rattle.dconf_model.specs.Settings.{Settings}
use Rattle.dconf_model.specs.Walks.{keys_below}
use Rattle.dconf_told.specs.Telling.{is_key_text}

-- the paths that are lent
abbrev pub each_of : List (Bor (List ℕ)) → List (List ℕ)
each_of paths = map (λ path. path.now) paths

-- a text, and that of a directory's path
abbrev pub IsDirectoryText : List ℕ → Type 0
IsDirectoryText path = IsUtf8 path × IsTrue (is_directory_path path)

-- an edit names a directory above it
abbrev pub IsBelowOne : List (List ℕ) → List ℕ → Type 0
IsBelowOne edits path = (directory : List ℕ) × Contains edits directory × IsDirectoryText directory × (is_below path directory ≡ true)

-- An edit names the key; or the layers have it, before or after, and an edit names a directory above it.
abbrev pub IsOwn : List Settings → List Settings → List (List ℕ) → List ℕ → Type 0
IsOwn l m edits path = (Contains edits path × IsKeyText path) ⊎ (Contains (all_paths l ++ all_paths m) path × IsBelowOne edits path)

-- exactly those, in the order of their bytes, once each
pub record AreOwn (l m : List Settings) (edits paths : List (List ℕ)) : Type 0 where
  pub rising : IsRising paths
  pub exact : (path : List ℕ) → Contains paths path ↔ IsOwn l m edits path

-- ---- words of private parts

-- the same, computed
abbrev pub is_directory_text : List ℕ → Bool
is_directory_text path = is_utf8 path && is_directory_path path

-- those that the layers have below a directory, before or after
abbrev pub below_in : List Settings → List Settings → List ℕ → List (List ℕ)
below_in l m directory = keys_below (all_paths l) directory ++ keys_below (all_paths m) directory

-- those that one edit is of, and that all are of
abbrev pub keys_of : List Settings → List Settings → List ℕ → List (List ℕ)
keys_of l m edit = if is_key_text edit then edit ∷ [] else (if is_directory_text edit then below_in l m edit else [])

abbrev pub own_of : List Settings → List Settings → List (List ℕ) → List (List ℕ)
own_of l m edits = flat_map (keys_of l m) edits

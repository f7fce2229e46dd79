-- The files of a store that was found, by the names that a command has for them.
use Rattle.std.specs.Prelude.{ℕ, List, ◌++◌, ◌∷◌, Option, Some, None, if◌then◌else◌}
use Rattle.dconf_model.specs.Paths.{starts_with_slash}
use Rattle.dconf_found.specs.Renamed.{Names, no_names, users_names}

-- where the user's database is one of dconf's, by its NAME
abbrev pub names_by : Option (List ℕ) → Names
names_by None = no_names
names_by (Some user) = users_names user

-- the whole path of a file of the folder, or of one that is a path already
abbrev pub path_in : List ℕ → List ℕ → List ℕ
path_in folder name = if starts_with_slash name then name else folder ++ 47 ∷ name

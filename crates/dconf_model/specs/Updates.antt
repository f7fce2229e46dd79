-- Which databases `update` makes of the sources in a folder, and of which files. dconf(1), "update".
use Rattle.std.specs.Prelude.{ℕ, Bool, List, ◌++◌, codes, map, nat_eq, not}
use Rattle.std.specs.List.{filter, starts_with}
use Rattle.dconf_model.specs.Commands.{Command}
use Rattle.dconf_model.specs.Commands.Command.{compile}

-- the folder NAME.d, by its NAME; the names of the files in NAME.d, and of those in NAME.d/locks
pub record SourceFolder : Type 0 where
  pub name : List ℕ
  pub keyfiles : List (List ℕ)
  pub locks : List (List ℕ)

-- a name that starts with `.` is hidden
abbrev pub is_shown : List ℕ → Bool
is_shown name = not (starts_with nat_eq name (codes "."))

abbrev pub has_database : SourceFolder → Bool
has_database folder = is_shown folder.name

abbrev pub sources_in : List ℕ → List (List ℕ) → List (List ℕ)
sources_in start names = map (λ name. start ++ name) (filter is_shown names)

-- NAME.db of the keyfiles in NAME.d, and of the lock files in NAME.d/locks
abbrev pub compile_of : SourceFolder → Command
compile_of folder =
    compile (folder.name ++ codes ".db") (sources_in (folder.name ++ codes ".d/locks/") folder.locks)
    (sources_in (folder.name ++ codes ".d/") folder.keyfiles)

-- the databases of the folders, each as `compile` makes it: those of hidden folders are left out
abbrev pub updates : List SourceFolder → List Command
updates folders = map compile_of (filter has_database folders)

-- The database that `dconf compile` makes of a folder.
use Rattle.std.specs.Prelude.{ℕ, List, ◌++◌, codes}
use Rattle.dconf_model.specs.Commands.{Command}
use Rattle.dconf_model.specs.Commands.Command.{compile}
use Rattle.dconf_model.specs.Updates.{sources_in}

-- of the keyfiles in it, and of the lock files in its folder `locks`, those that aren't hidden
abbrev pub compile_of_folder : List ℕ → List ℕ → List (List ℕ) → List (List ℕ) → Command
compile_of_folder out folder locks keyfiles = compile out (sources_in (folder ++ codes "/locks/") locks) (sources_in (folder ++ codes "/") keyfiles)

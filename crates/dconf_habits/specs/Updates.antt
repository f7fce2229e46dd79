-- What `update` makes where dconf has its databases. dconf(1), "update".
use Rattle.std.specs.Prelude.{◌≡◌, ℕ, List, ◌++◌, codes}
use Rattle.dconf_model.specs.Commands.{Command}
use Rattle.dconf_model.specs.Commands.Command.{compile}
use Rattle.dconf_model.specs.Updates.{SourceFolder, compile_of, sources_in}

-- the same of the same sources, by another name
abbrev pub in_dconfs_place : List ℕ → Command → Command
in_dconfs_place name (compile out locks keyfiles) = compile name locks keyfiles
in_dconfs_place name other = other

-- NAME of the keyfiles in NAME.d, and of the lock files in NAME.d/locks
abbrev pub NamesDconfs : Type 0
NamesDconfs = (folder : SourceFolder) →
    in_dconfs_place folder.name (compile_of folder) ≡ compile folder.name (sources_in (folder.name ++ codes ".d/locks/") folder.locks)
    (sources_in (folder.name ++ codes ".d/") folder.keyfiles)

-- Where a machine has what is everybody's. dconf(7); docs/MANUAL.md, "update".
use Rattle.std.specs.Prelude.{ℕ, List, [], Bool, if◌then◌else◌}
use Rattle.dconf_model.specs.Profiles.Kind.{system_db}
use Rattle.dconf_homes.specs.Homes.{dconfs_folder}
use Rattle.dconf_places.specs.Places.{everyones_folder}

-- where the databases of the system are that profiles name there
abbrev pub machines_folder : Bool → List ℕ
machines_folder is_dconfs = if is_dconfs then dconfs_folder [] system_db else everyones_folder

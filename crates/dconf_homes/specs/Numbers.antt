-- What C is told by numbers, and says by them.
use Rattle.std.specs.Prelude.{ℕ, List, Bool, Option, Some, None, ◌==◌, ◌&&◌, ◌||◌, nat_lt, if◌then◌else◌}
use Rattle.dconf_places.specs.Numbers.{base_number, candidate_number, candidate_numbered}
use Rattle.dconf_places.specs.Places.{Giver, Spot, path_at}
use Rattle.dconf_homes.specs.Homes.{StoreKind, Surroundings, What, kind_for, minds_environment, minds_machine}
use Rattle.dconf_homes.specs.Homes.StoreKind.{own, dconfs, unknown}
use Rattle.dconf_homes.specs.Homes.What.{the_folder, the_profile, the_runtime}
use Rattle.dconf_homes.specs.declared.sought.Sought.{Sought}
use Rattle.dconf_homes.specs.declared.sought.Sought.TheVariants.{Ours, Mandatory, Path, Runtime, System, Data}
use Rattle.dconf_homes.specs.declared.sought.SoughtStep.{SoughtStep}
use Rattle.dconf_homes.specs.declared.sought.SoughtStep.TheVariants.{Look, Counts, UsersAlone, NoDatabase, Refused}

abbrev pub kind_number : StoreKind → ℕ
kind_number own = 0
kind_number dconfs = 1
kind_number unknown = 2

-- Known is nothing so far (0), the environment (1), or that and what the machine's file says (2). Asked is the first next (3), or the second (4), or the
-- kind is known.
abbrev pub kind_step : Surroundings → Giver → ℕ → ℕ
kind_step s g known =
    if known == 0 && minds_environment g then 3
    else if nat_lt known 2 && minds_machine s g then 4
    else kind_number (kind_for s g)

abbrev pub what_numbered : ℕ → What
what_numbered n = if n == 0 then the_folder else if n == 1 then the_profile else the_runtime

abbrev pub found_number : Option (List ℕ) → ℕ
found_number (Some path) = 0
found_number None = 3

-- what has to be asked to know a path: once it was asked, or where nothing has to be, the path is known, or there is none
abbrev pub asked_for : Spot → Bool → List ℕ → ℕ
asked_for spot is_asked base = if (base_number spot == 0) || is_asked then found_number (path_at spot base) else base_number spot

abbrev pub sought_number : Sought → ℕ
sought_number (Ours it) = candidate_number it
sought_number Mandatory = 8
sought_number Path = 9
sought_number Runtime = 10
sought_number System = 11
sought_number (Data n) = 12

-- which of $XDG_DATA_DIRS
abbrev pub dir_of : Sought → ℕ
dir_of (Ours it) = 0
dir_of Mandatory = 0
dir_of Path = 0
dir_of Runtime = 0
dir_of System = 0
dir_of (Data n) = n

abbrev pub sought_numbered : ℕ → ℕ → Sought
sought_numbered n dir =
    if n == 8 then Mandatory else if n == 9 then Path else if n == 10 then Runtime else if n == 11 then System else if n == 12 then Data dir
    else Ours (candidate_numbered n)

abbrev pub step_number : SoughtStep → ℕ
step_number (Look it) = sought_number it
step_number UsersAlone = 3
step_number Counts = 4
step_number NoDatabase = 5
step_number Refused = 6

abbrev pub dir_of_step : SoughtStep → ℕ
dir_of_step (Look it) = dir_of it
dir_of_step UsersAlone = 0
dir_of_step Counts = 0
dir_of_step NoDatabase = 0
dir_of_step Refused = 0

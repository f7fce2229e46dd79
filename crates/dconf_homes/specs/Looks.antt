-- The looks at the profiles that may count, as C makes them: what it says of one, and what it is told then.
use Rattle.std.specs.Prelude.{◌≡◌, ℕ, List, Option, None, Bool, true, false, not, ◌||◌, ◌==◌, if◌then◌else◌, is_some}
use Rattle.dconf_verdicts.specs.Errnos.{kind_of}
use Rattle.dconf_verdicts.specs.Faults.{is_files_own}
use Rattle.dconf_places.specs.Numbers.{telling_number}
use Rattle.dconf_places.specs.ProfileSteps.{found_by}
use Rattle.dconf_places.specs.Told.{text_of}
use Rattle.dconf_places.specs.declared.profile.Found.{Found}
use Rattle.dconf_places.specs.declared.profile.Telling.{Telling}
use Rattle.dconf_places.specs.declared.profile.Telling.TheVariants.{Nothing}
use Rattle.dconf_homes.specs.Homes.{Home}
use Rattle.dconf_homes.specs.Numbers.{dir_of_step, sought_numbered, step_number}
use Rattle.dconf_homes.specs.Sought.{first_sought, listed_step, or_empty, said_as, sought_path, sought_step, told_name}
use Rattle.dconf_homes.specs.declared.looks.DconfdbProfileLook.{DconfdbProfileLook}
use Rattle.dconf_homes.specs.declared.looks.DconfdbProfileNext.{DconfdbProfileNext}
use Rattle.dconf_homes.specs.declared.sought.Sought.{Sought}
use Rattle.dconf_homes.specs.declared.sought.SoughtStep.{SoughtStep}
use Rattle.dconf_homes.specs.declared.sought.SoughtStep.TheVariants.{Look, Counts, UsersAlone, NoDatabase, Refused}

-- ---- a look

abbrev pub looked_at : DconfdbProfileLook → Sought
looked_at look = sought_numbered look.which look.dir

-- what it found, by the errno by which it failed, or 0
abbrev pub found_in : DconfdbProfileLook → Found
found_in look = found_by (not (look.errno == 0)) (is_files_own (kind_of look.errno)) look.is_there

-- none was made yet
abbrev pub is_before : DconfdbProfileLook → Bool
is_before look = look.which == 7

-- ---- what comes then

abbrev pub next_step : Home → DconfdbProfileLook → SoughtStep
next_step h look =
    if is_before look then Look (first_sought h)
    else if look.lists then listed_step h (looked_at look)
    else sought_step h (looked_at look) (found_in look) look.is_lenient

abbrev pub is_look : SoughtStep → Bool
is_look (Look it) = true
is_look UsersAlone = false
is_look Counts = false
is_look NoDatabase = false
is_look Refused = false

-- where that is looked for, if there is such a place
abbrev pub step_path : Home → SoughtStep → Option (List ℕ)
step_path h (Look it) = sought_path h it
step_path h UsersAlone = None
step_path h Counts = None
step_path h NoDatabase = None
step_path h Refused = None

-- ---- what is told of the look

abbrev pub telling_of : Home → DconfdbProfileLook → Telling
telling_of h look =
    if is_before look || look.lists then Nothing else said_as h (looked_at look) (found_in look) look.is_lenient look.has_kept

-- of one that is missing ENOENT
abbrev pub told_errno : ℕ → ℕ
told_errno errno = if errno == 0 then 2 else errno

pub record IsNextLook (h : Home) (look : DconfdbProfileLook) (next : DconfdbProfileNext) : Type 0 where
  pub step : next.step ≡ step_number (next_step h look)
  pub dir : next.dir ≡ dir_of_step (next_step h look)
  pub looks : next.looks ≡ is_look (next_step h look)
  pub has_path : next.has_path ≡ is_some (step_path h (next_step h look))
  pub path : text_of next.path ≡ or_empty (step_path h (next_step h look))
  pub telling : next.telling ≡ telling_number (telling_of h look)
  pub errno : next.errno ≡ told_errno look.errno
  pub name : text_of next.name ≡ told_name h (looked_at look) (found_in look)

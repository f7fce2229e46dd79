-- Which profile counts in a store that was found, by what a look at each found. dconf(7), "Profiles".
use Rattle.std.specs.Prelude.{ℕ, ◌+◌, List, [], ◌++◌, codes, Option, Some, None, Bool, true, false, not, ◌&&◌, ◌==◌, if◌then◌else◌, is_some, nat_lt}
use Rattle.std.specs.List.{slice_split, slice_get}
use Rattle.dconf_model.specs.Paths.{starts_with_slash}
use Rattle.dconf_places.specs.Places.{is_empty}
use Rattle.dconf_places.specs.ProfileSteps.{candidate_path, first_candidate, profile_step}
use Rattle.dconf_places.specs.declared.profile.Found.{Found}
use Rattle.dconf_places.specs.declared.profile.Found.TheVariants.{There, Missing, Unreadable, Unknown}
use Rattle.dconf_places.specs.declared.profile.ProfileStep.{ProfileStep}
use Rattle.dconf_places.specs.declared.profile.Telling.{Telling}
use Rattle.dconf_places.specs.declared.profile.Telling.TheVariants.{Nothing, Refuses, Kept}
use Rattle.dconf_homes.specs.Homes.{Home}
use Rattle.dconf_homes.specs.declared.sought.Sought.{Sought}
use Rattle.dconf_homes.specs.declared.sought.Sought.TheVariants.{Ours, Mandatory, Path, Runtime, System, Data}
use Rattle.dconf_homes.specs.declared.sought.SoughtStep.{SoughtStep}
use Rattle.dconf_homes.specs.declared.sought.SoughtStep.TheVariants.{Look, Counts, UsersAlone, NoDatabase, Refused}

-- ---- the places

-- $DCONF_PROFILE names one, by a whole path or by a name
abbrev pub has_name : Home → Bool
has_name h = not (is_empty h.profile)

abbrev pub name_of : Home → List ℕ
name_of h = if has_name h then h.profile else codes "user"

abbrev pub data_or_usual : List ℕ → List ℕ
data_or_usual text = if is_empty text then codes "/usr/local/share/:/usr/share/" else text

-- one of $XDG_DATA_DIRS
abbrev pub dir_at : List ℕ → ℕ → Option (List ℕ)
dir_at text n = slice_get (slice_split (λ c. c == 58) (data_or_usual text)) n

-- one that is no whole path counts for nothing
abbrev pub in_dir : Option (List ℕ) → List ℕ → Option (List ℕ)
in_dir None name = None
in_dir (Some dir) name = if starts_with_slash dir then Some (dir ++ (codes "/dconf/profile/" ++ name)) else None

-- the file of a profile that may count, if there is such a place
abbrev pub sought_path : Home → Sought → Option (List ℕ)
sought_path h (Ours it) = Some (candidate_path it h.folder h.named)
sought_path h Mandatory = Some (codes "/run/dconf/user/" ++ h.user)
sought_path h Path = Some h.profile
sought_path h Runtime = if is_empty h.runtime then None else Some (h.runtime ++ codes "/dconf/profile")
sought_path h System = Some (codes "/etc/dconf/profile/" ++ name_of h)
sought_path h (Data n) = in_dir (dir_at h.data_dirs n) (name_of h)

-- ---- the order

-- the one that is looked at first
abbrev pub first_sought : Home → Sought
first_sought h = if is_empty h.named && h.in_place then Mandatory else Ours (first_candidate (not (is_empty h.named)))

abbrev pub behind_mandatory : Home → Sought
behind_mandatory h = if not (has_name h) then Runtime else if starts_with_slash h.profile then Path else System

-- where no file is one
abbrev pub last_step : Home → SoughtStep
last_step h = if has_name h then NoDatabase else UsersAlone

-- in so many folders of $XDG_DATA_DIRS it is looked for at most
abbrev pub most_dirs : ℕ
most_dirs = 1000

abbrev pub behind_dir : Home → ℕ → SoughtStep
behind_dir h n = if nat_lt (n + 1) most_dirs && is_some (dir_at h.data_dirs (n + 1)) then Look (Data (n + 1)) else last_step h

abbrev pub step_of : ProfileStep → SoughtStep
step_of (ProfileStep.Look it) = Look (Ours it)
step_of ProfileStep.Counts = Counts
step_of ProfileStep.UsersAlone = UsersAlone
step_of ProfileStep.NoDatabase = NoDatabase
step_of ProfileStep.Refused = Refused

-- behind one that isn't there
abbrev pub behind : Home → Sought → SoughtStep
behind h (Ours it) = step_of (profile_step it Missing true)
behind h Mandatory = Look (behind_mandatory h)
behind h Path = NoDatabase
behind h Runtime = Look System
behind h System = Look (Data 0)
behind h (Data n) = behind_dir h n

-- behind one that is there and can't be read: a name is looked for no further
abbrev pub behind_bad : Home → Sought → SoughtStep
behind_bad h (Ours it) = step_of (profile_step it Unreadable true)
behind_bad h Mandatory = Look (behind_mandatory h)
behind_bad h Path = NoDatabase
behind_bad h Runtime = Look System
behind_bad h System = last_step h
behind_bad h (Data n) = last_step h

abbrev pub is_none : SoughtStep → Bool
is_none (Look it) = false
is_none Counts = false
is_none UsersAlone = false
is_none NoDatabase = true
is_none Refused = false

-- One that is named has to be there, unless who opens the store is lenient.
abbrev pub if_none : SoughtStep → Bool → SoughtStep
if_none step lenient = if is_none step && not lenient then Refused else step

-- of dconf's own kind of store
abbrev pub dconfs_step : Home → Sought → Found → Bool → SoughtStep
dconfs_step h it There lenient = Counts
dconfs_step h it Missing lenient = if_none (behind h it) lenient
dconfs_step h it Unreadable lenient = if lenient then behind_bad h it else Refused
dconfs_step h it Unknown lenient = Refused

abbrev pub sought_step : Home → Sought → Found → Bool → SoughtStep
sought_step h (Ours it) found lenient = step_of (profile_step it found lenient)
sought_step h Mandatory found lenient = dconfs_step h Mandatory found lenient
sought_step h Path found lenient = dconfs_step h Path found lenient
sought_step h Runtime found lenient = dconfs_step h Runtime found lenient
sought_step h System found lenient = dconfs_step h System found lenient
sought_step h (Data n) found lenient = dconfs_step h (Data n) found lenient

-- ---- what is told

-- One that is missing is told of where nothing else is looked at, and one is named.
abbrev pub is_said : Home → Sought → Found → Bool
is_said h it There = false
is_said h it Missing = is_none (behind h it)
is_said h it Unreadable = true
is_said h it Unknown = true

abbrev pub is_refusal : SoughtStep → Bool
is_refusal (Look it) = false
is_refusal Counts = false
is_refusal UsersAlone = false
is_refusal NoDatabase = false
is_refusal Refused = true

-- Where the store can't be opened, that is why. Else the store keeps the first that is told.
abbrev pub said_as : Home → Sought → Found → Bool → Bool → Telling
said_as h it found lenient has_kept =
    if not (is_said h it found) then Nothing else if is_refusal (sought_step h it found lenient) then Refuses else if has_kept then Nothing else Kept

-- ---- how they are listed

-- All that may count are listed one after another, as if none were there.
abbrev pub listed_step : Home → Sought → SoughtStep
listed_step h it = sought_step h it Missing true

-- ---- by which name it is told

-- what names the profile
abbrev pub naming : Home → List ℕ
naming h = if is_empty h.named then h.profile else h.named

abbrev pub or_empty : Option (List ℕ) → List ℕ
or_empty (Some text) = text
or_empty None = []

-- one that is missing by what names it, and else by its path
abbrev pub told_name : Home → Sought → Found → List ℕ
told_name h it Missing = naming h
told_name h it There = or_empty (sought_path h it)
told_name h it Unreadable = or_empty (sought_path h it)
told_name h it Unknown = or_empty (sought_path h it)

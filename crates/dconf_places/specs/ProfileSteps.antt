-- Which profile counts, by what a look at each found.
use Rattle.std.specs.Prelude.{ℕ, List, ◌++◌, codes, Bool, true, false, not, if◌then◌else◌}
use Rattle.dconf_places.specs.Places.{everyones_profile}
use Rattle.dconf_places.specs.declared.profile.Candidate.{Candidate}
use Rattle.dconf_places.specs.declared.profile.Candidate.TheVariants.{Named, Own, Everyones}
use Rattle.dconf_places.specs.declared.profile.Found.{Found}
use Rattle.dconf_places.specs.declared.profile.Found.TheVariants.{There, Missing, Unreadable, Unknown}
use Rattle.dconf_places.specs.declared.profile.ProfileStep.{ProfileStep}
use Rattle.dconf_places.specs.declared.profile.ProfileStep.TheVariants.{Look, Counts, UsersAlone, NoDatabase, Refused}
use Rattle.dconf_places.specs.declared.profile.Telling.{Telling}
use Rattle.dconf_places.specs.declared.profile.Telling.TheVariants.{Nothing, Refuses, Kept}

-- its file, by the store's folder and the profile that is named
abbrev pub candidate_path : Candidate → List ℕ → List ℕ → List ℕ
candidate_path Named folder profile = profile
candidate_path Own folder profile = folder ++ codes "/profile"
candidate_path Everyones folder profile = everyones_profile

-- which one is looked at first
abbrev pub first_candidate : Bool → Candidate
first_candidate named = if named then Named else Own

-- behind one that is passed over
abbrev pub after : Candidate → ProfileStep
after Named = NoDatabase
after Own = Look Everyones
after Everyones = UsersAlone

-- one that is named has to be there
abbrev pub if_missing : Candidate → Bool → ProfileStep
if_missing Named lenient = if lenient then NoDatabase else Refused
if_missing Own lenient = Look Everyones
if_missing Everyones lenient = UsersAlone

-- Who is lenient passes over what can't be read by its own fault.
abbrev pub profile_step : Candidate → Found → Bool → ProfileStep
profile_step it There lenient = Counts
profile_step it Missing lenient = if_missing it lenient
profile_step it Unreadable lenient = if lenient then after it else Refused
profile_step it Unknown lenient = Refused

abbrev pub is_named : Candidate → Bool
is_named Named = true
is_named Own = false
is_named Everyones = false

-- why it isn't the profile is told; one that nobody names may be missing
abbrev pub is_told : Candidate → Found → Bool
is_told it There = false
is_told it Missing = is_named it
is_told it Unreadable = true
is_told it Unknown = true

-- ---- how it is told

-- by what the system says of the file: it fails or not, by its own fault or not
abbrev pub found_by : Bool → Bool → Bool → Found
found_by fails is_own is_there = if fails then (if is_own then Unreadable else Unknown) else if is_there then There else Missing

-- Where the store can't be opened, that is why. Else the store keeps the first that is told.
abbrev pub is_refused : ProfileStep → Bool
is_refused (Look it) = false
is_refused Counts = false
is_refused UsersAlone = false
is_refused NoDatabase = false
is_refused Refused = true

abbrev pub told_as : Candidate → Found → Bool → Bool → Telling
told_as it found lenient has_kept =
    if not (is_told it found) then Nothing else if is_refused (profile_step it found lenient) then Refuses else if has_kept then Nothing else Kept

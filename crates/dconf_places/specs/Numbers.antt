-- What C is told by numbers, and says by them.
use Rattle.std.specs.Prelude.{ℕ, List, ◌==◌, if◌then◌else◌}
use Rattle.dconf_model.specs.Profiles.{Kind}
use Rattle.dconf_model.specs.Profiles.Kind.{user_db, system_db, file_db}
use Rattle.dconf_places.specs.Places.{Giver, Spot}
use Rattle.dconf_places.specs.Places.Giver.{nobody, program, user}
use Rattle.dconf_places.specs.Places.Spot.{in_root, in_current, in_home, nowhere}
use Rattle.dconf_places.specs.declared.profile.Candidate.{Candidate}
use Rattle.dconf_places.specs.declared.profile.Candidate.TheVariants.{Named, Own, Everyones}
use Rattle.dconf_places.specs.declared.profile.ProfileStep.{ProfileStep}
use Rattle.dconf_places.specs.declared.profile.ProfileStep.TheVariants.{Look, Counts, UsersAlone, NoDatabase, Refused}
use Rattle.dconf_places.specs.declared.profile.Telling.{Telling}
use Rattle.dconf_places.specs.declared.profile.Telling.TheVariants.{Nothing, Refuses, Kept}

abbrev pub giver_numbered : ℕ → List ℕ → Giver
giver_numbered n folder = if n == 0 then nobody else if n == 1 then program folder else user folder

abbrev pub base_number : Spot → ℕ
base_number (in_root path) = 0
base_number (in_current path) = 1
base_number (in_home path) = 2
base_number nowhere = 3

abbrev pub candidate_number : Candidate → ℕ
candidate_number Named = 0
candidate_number Own = 1
candidate_number Everyones = 2

abbrev pub candidate_numbered : ℕ → Candidate
candidate_numbered n = if n == 0 then Named else if n == 1 then Own else Everyones

abbrev pub telling_number : Telling → ℕ
telling_number Nothing = 0
telling_number Refuses = 1
telling_number Kept = 2

abbrev pub step_number : ProfileStep → ℕ
step_number (Look it) = candidate_number it
step_number UsersAlone = 3
step_number Counts = 4
step_number NoDatabase = 5
step_number Refused = 6

abbrev pub kind_numbered : ℕ → Kind
kind_numbered n = if n == 0 then user_db else if n == 1 then system_db else file_db

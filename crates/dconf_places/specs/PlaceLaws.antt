-- What users rely on, of where a store is and of what its profile means.
use Rattle.std.specs.Prelude.{◌≡◌, ◌⊎◌, ℕ, List, ◌++◌, codes, Some, Bool, true, false}
use Rattle.dconf_model.specs.Paths.{starts_with_slash}
use Rattle.dconf_model.specs.Profiles.{is_name}
use Rattle.dconf_model.specs.Profiles.Kind.{user_db, system_db}
use Rattle.dconf_places.specs.Places.{Variables, Giver, folder_of, profile_of, path_at, database_path}
use Rattle.dconf_places.specs.ProfileSteps.{is_told, profile_step}
use Rattle.dconf_places.specs.declared.profile.Candidate.{Candidate}
use Rattle.dconf_places.specs.declared.profile.Candidate.TheVariants.{Named}
use Rattle.dconf_places.specs.declared.profile.Found.{Found}
use Rattle.dconf_places.specs.declared.profile.Found.TheVariants.{Missing}
use Rattle.dconf_places.specs.declared.profile.ProfileStep.TheVariants.{Look, Counts, UsersAlone}

-- of variables that don't count it is all the same what they say
abbrev pub NoVariableCounts : Type 0
NoVariableCounts = (v w : Variables) (g : Giver) → v.counted ≡ false → w.counted ≡ false → (folder_of v g ≡ folder_of w g) × (profile_of v g ≡ profile_of w g)

-- whoever says where it is, its path is whole
abbrev pub FolderIsWhole : Type 0
FolderIsWhole = (v : Variables) (g : Giver) (base path : List ℕ) → starts_with_slash base ≡ true → path_at (folder_of v g) base ≡ Some path → starts_with_slash path ≡ true

-- no other profile takes the place of one that is named
pub record IsNeverPassedOver (found : Found) (lenient : Bool) : Type 0 where
  pub no_other : (other : Candidate) → profile_step Named found lenient ≡ Look other → ⊥
  pub not_none : profile_step Named found lenient ≡ UsersAlone → ⊥

abbrev pub NamedIsNeverPassedOver : Type 0
NamedIsNeverPassedOver = (found : Found) (lenient : Bool) → IsNeverPassedOver found lenient

-- a profile counts, or isn't there, or it is told why it doesn't count
abbrev pub NoneIsPassedOverSilently : Type 0
NoneIsPassedOverSilently = (it : Candidate) (found : Found) (lenient : Bool) →
    (profile_step it found lenient ≡ Counts) ⊎ ((found ≡ Missing) ⊎ (is_told it found ≡ true))

-- whatever profile names it, a user's file is in the store's folder
abbrev pub UsersFileIsInTheFolder : Type 0
UsersFileIsInTheFolder = (folder name : List ℕ) (beside : Bool) → is_name user_db name ≡ true →
    database_path folder beside (record { kind = user_db; name = name }) ≡ folder ++ (codes "/" ++ (name ++ codes ".user"))

-- a site's file beside the profile of all users is the same one, whatever the store's folder is
abbrev pub SitesFileIsNoUsers : Type 0
SitesFileIsNoUsers = (folder name : List ℕ) → is_name system_db name ≡ true →
    database_path folder true (record { kind = system_db; name = name }) ≡ codes "/etc/dconfdb" ++ (codes "/" ++ (name ++ codes ".db"))

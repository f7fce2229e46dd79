-- What users rely on, of a store that was found.
use Rattle.std.specs.Prelude.{◌≡◌, ◌⊎◌, ℕ, List, ◌++◌, codes, Some, Bool, true, false}
use Rattle.dconf_model.specs.Paths.{starts_with_slash}
use Rattle.dconf_model.specs.Profiles.{Database, is_name}
use Rattle.dconf_model.specs.Profiles.Kind.{user_db, system_db}
use Rattle.dconf_places.specs.Places.{Giver, database_path, is_beside, folder_of, path_at}
use Rattle.dconf_places.specs.Places.Giver.{program, user}
use Rattle.dconf_places.specs.declared.profile.Found.{Found}
use Rattle.dconf_places.specs.declared.profile.Found.TheVariants.{Missing}
use Rattle.dconf_homes.specs.Homes.{Home, Surroundings, What, file_in, kind_for, minds_machine, spot_in}
use Rattle.dconf_homes.specs.Homes.What.{the_folder}
use Rattle.dconf_homes.specs.Sought.{is_said, listed_step, sought_step}
use Rattle.dconf_homes.specs.declared.sought.Sought.{Sought}
use Rattle.dconf_homes.specs.declared.sought.SoughtStep.TheVariants.{Counts, Look}

-- whoever gives a folder has our own kind of store in it, whatever the machine's file says
abbrev pub GivenIsOurs : Type 0
GivenIsOurs = (s : Surroundings) (folder : List ℕ) →
    (spot_in the_folder s (program folder) ≡ folder_of s.variables (program folder)) × (spot_in the_folder s (user folder) ≡ folder_of s.variables (user folder))

-- the path of the folder of a store is whole, of whichever kind it is
abbrev pub FolderIsWhole : Type 0
FolderIsWhole = (s : Surroundings) (g : Giver) (base path : List ℕ) →
    starts_with_slash base ≡ true → path_at (spot_in the_folder s g) base ≡ Some path → starts_with_slash path ≡ true

-- in dconf's places a user's file has its name of the profile, in the user's folder, and a site's has in /etc/dconf/db
abbrev pub FilesAreDconfs : Type 0
FilesAreDconfs = (h : Home) (profile name : List ℕ) → h.in_place ≡ true → is_name user_db name ≡ true →
    (file_in h profile (record { kind = user_db; name = name }) ≡ h.folder ++ (codes "/" ++ name))
    × (file_in h profile (record { kind = system_db; name = name }) ≡ codes "/etc/dconf/db" ++ (codes "/" ++ name))

-- elsewhere they have the names that they have in a folder
abbrev pub OthersAreOurs : Type 0
OthersAreOurs = (h : Home) (profile : List ℕ) (d : Database) → h.in_place ≡ false →
    file_in h profile d ≡ database_path h.folder (is_beside profile h.given) d

-- a profile counts, or isn't there, or it is told why it doesn't count
abbrev pub NoneIsPassedOverSilently : Type 0
NoneIsPassedOverSilently = (h : Home) (it : Sought) (found : Found) (lenient : Bool) →
    (sought_step h it found lenient ≡ Counts) ⊎ ((found ≡ Missing) ⊎ (is_said h it found ≡ true))

-- whatever a look finds, the one that is looked at next is the one that is listed next
abbrev pub AllAreListed : Type 0
AllAreListed = (h : Home) (it next : Sought) (found : Found) (lenient : Bool) →
    sought_step h it found lenient ≡ Look next → listed_step h it ≡ Look next

-- What isn't asked makes no difference: the environment to a program that gives a folder, and what the machine's file says where it isn't minded.
pub record WhatIsNotAsked : Type 0 where
  pub environment : (s other : Surroundings) (what : What) (folder : List ℕ) → spot_in what s (program folder) ≡ spot_in what other (program folder)
  pub machine : (s : Surroundings) (g : Giver) (text : List ℕ) (unreadable : Bool) → minds_machine s g ≡ false →
      kind_for s g ≡ kind_for (record { variables = s.variables; runtime = s.runtime; cache = s.cache; machine = text; unreadable = unreadable }) g

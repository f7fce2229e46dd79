-- Where a store is, which profile is named, and which file a line of a profile means. docs/MANUAL.md, "Where a store is".
--
-- A store is a folder. A variable of the environment that is empty counts as unset.
use Rattle.std.specs.Prelude.{ℕ, List, ◌++◌, codes, length, Option, Some, None, Bool, not, ◌&&◌, ◌||◌, ◌==◌, if◌then◌else◌}
use Rattle.std.specs.List.{list_any}
use Rattle.std.specs.Str.{bytes_eq}
use Rattle.dconf_model.specs.Paths.{starts_with_slash}
use Rattle.dconf_model.specs.Profiles.{Database, Kind, database_file}
use Rattle.dconf_model.specs.Profiles.Kind.{user_db, system_db, file_db}

-- $DCONFDB_STORE, $XDG_CONFIG_HOME, $HOME and $DCONFDB_PROFILE. None counts of a program that has more rights than whoever started it.
pub record Variables : Type 0 where
  pub counted : Bool
  pub store : List ℕ
  pub config : List ℕ
  pub home : List ℕ
  pub profile : List ℕ

-- who gives the folder of a store: nobody; a program that calls the library; or a user, by a word of a command
pub data Giver : Type 0 where
  nobody : Giver
  program : List ℕ → Giver
  user : List ℕ → Giver

-- a path, and where it begins: in the root; in the current folder; in the home that the system has for the user
pub data Spot : Type 0 where
  in_root : List ℕ → Spot
  in_current : List ℕ → Spot
  in_home : List ℕ → Spot
  nowhere : Spot

abbrev pub is_empty : List ℕ → Bool
is_empty text = length text == 0

abbrev pub has_slash : List ℕ → Bool
has_slash text = list_any (λ c. c == 47) text

abbrev pub spot_of : List ℕ → Spot
spot_of path = if starts_with_slash path then in_root path else in_current path

-- ---- the folder

-- the first that is named; $XDG_CONFIG_HOME and $HOME name one by a whole path
abbrev pub default_folder : Variables → Spot
default_folder v =
    if not v.counted then nowhere
    else if not (is_empty v.store) then spot_of v.store
    else if starts_with_slash v.config then in_root (v.config ++ codes "/dconfdb")
    else if starts_with_slash v.home then in_root (v.home ++ codes "/.config/dconfdb")
    else in_home (codes ".config/dconfdb")

abbrev pub folder_of : Variables → Giver → Spot
folder_of v nobody = default_folder v
folder_of v (program folder) = spot_of folder
folder_of v (user folder) = spot_of folder

-- ---- the profile that is named

-- a path if it has a slash, and else a file of the system's
abbrev pub profile_in : Variables → Spot
profile_in v =
    if not v.counted || is_empty v.profile then nowhere
    else if has_slash v.profile then spot_of v.profile
    else in_root (codes "/etc/dconfdb/profiles/" ++ v.profile)

-- A folder that a program gives has its own profile, whatever the environment says.
abbrev pub profile_of : Variables → Giver → Spot
profile_of v nobody = profile_in v
profile_of v (program folder) = nowhere
profile_of v (user folder) = profile_in v

-- the folder, or the profile that is named
abbrev pub spot_for : Bool → Variables → Giver → Spot
spot_for is_profile v giver = if is_profile then profile_of v giver else folder_of v giver

-- The whole path, by the folder that it begins in. A home counts by its whole path.
abbrev pub path_at : Spot → List ℕ → Option (List ℕ)
path_at (in_root path) base = Some path
path_at (in_current path) base = Some (base ++ (codes "/" ++ path))
path_at (in_home path) base = if starts_with_slash base then Some (base ++ (codes "/" ++ path)) else None
path_at nowhere base = None

-- ---- the file of a line

abbrev pub everyones_folder : List ℕ
everyones_folder = codes "/etc/dconfdb"

abbrev pub everyones_profile : List ℕ
everyones_profile = codes "/etc/dconfdb/profile"

-- Databases of the system are beside the profile, if that is the one of all users, and nobody gives the folder.
abbrev pub is_beside : List ℕ → Bool → Bool
is_beside profile given = bytes_eq profile everyones_profile && not given

abbrev pub folder_for : List ℕ → Bool → Kind → List ℕ
folder_for folder beside user_db = folder
folder_for folder beside system_db = if beside then everyones_folder else folder
folder_for folder beside file_db = folder

-- the path of a database's file, by that of the store's folder
abbrev pub database_path : List ℕ → Bool → Database → List ℕ
database_path folder beside d =
    if starts_with_slash d.name then d.name else folder_for folder beside d.kind ++ (codes "/" ++ database_file d)

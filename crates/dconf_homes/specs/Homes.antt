-- Which kind of store a machine has, and where dconf's own is. dconf(7), "Profiles"; the XDG Base Directory Specification.
use Rattle.std.specs.Prelude.{ℕ, List, [], ◌++◌, codes, Bool, true, false, not, ◌&&◌, ◌||◌, if◌then◌else◌}
use Rattle.std.specs.Str.{bytes_eq}
use Rattle.dconf_model.specs.Paths.{starts_with_slash}
use Rattle.dconf_model.specs.Profiles.{Database, Kind, is_user}
use Rattle.dconf_model.specs.Profiles.Kind.{user_db, system_db, file_db}
use Rattle.dconf_places.specs.Places.{Variables, Giver, Spot, database_path, folder_of, is_beside, is_empty, profile_of}
use Rattle.dconf_places.specs.Places.Giver.{nobody, program, user}
use Rattle.dconf_places.specs.Places.Spot.{in_root, in_home, nowhere}

-- the variables of a store, $XDG_RUNTIME_DIR and $XDG_CACHE_HOME; and what /etc/dconfdb/store says, which may not be to be read
pub record Surroundings : Type 0 where
  pub variables : Variables
  pub runtime : List ℕ
  pub cache : List ℕ
  pub machine : List ℕ
  pub unreadable : Bool

-- our own: a folder that has all; dconf's, whose parts are where dconf has them; or nobody knows
pub data StoreKind : Type 0 where
  own : StoreKind
  dconfs : StoreKind
  unknown : StoreKind

-- what is asked for: the folder, the profile that the environment names, or the user's runtime folder
pub data What : Type 0 where
  the_folder : What
  the_profile : What
  the_runtime : What

-- ---- which kind

abbrev pub is_word : List ℕ → List ℕ → Bool
is_word text word = bytes_eq text word || bytes_eq text (word ++ codes "\n")

-- by the one word of the machine's file
abbrev pub machine_kind : List ℕ → Bool → StoreKind
machine_kind text unreadable =
    if unreadable then unknown
    else if is_empty text || is_word text (codes "dconfdb") then own
    else if is_word text (codes "dconf") then dconfs
    else unknown

-- A user's own word goes first: a folder, or $DCONFDB_STORE.
abbrev pub found_kind : Surroundings → StoreKind
found_kind s = if not s.variables.counted || not (is_empty s.variables.store) then own else machine_kind s.machine s.unreadable

abbrev pub kind_for : Surroundings → Giver → StoreKind
kind_for s nobody = found_kind s
kind_for s (program folder) = own
kind_for s (user folder) = own

-- ---- what is asked to know it

-- A program that gives a folder has its environment not asked.
abbrev pub minds_environment : Giver → Bool
minds_environment nobody = true
minds_environment (program folder) = false
minds_environment (user folder) = true

-- whether it is the machine's file that says it
abbrev pub minds_machine : Surroundings → Giver → Bool
minds_machine s nobody = s.variables.counted && is_empty s.variables.store
minds_machine s (program folder) = false
minds_machine s (user folder) = false

-- ---- where dconf's is

abbrev pub config_folder : Variables → Spot
config_folder v =
    if starts_with_slash v.config then in_root (v.config ++ codes "/dconf")
    else if starts_with_slash v.home then in_root (v.home ++ codes "/.config/dconf")
    else in_home (codes ".config/dconf")

-- the cache stands for it where the session has none
abbrev pub runtime_folder : Surroundings → Spot
runtime_folder s =
    if starts_with_slash s.runtime then in_root s.runtime
    else if starts_with_slash s.cache then in_root s.cache
    else if starts_with_slash s.variables.home then in_root (s.variables.home ++ codes "/.cache")
    else in_home (codes ".cache")

-- of our own kind
abbrev pub own_spot : What → Variables → Giver → Spot
own_spot the_folder v g = folder_of v g
own_spot the_profile v g = profile_of v g
own_spot the_runtime v g = nowhere

-- of dconf's
abbrev pub dconfs_spot : What → Surroundings → Spot
dconfs_spot the_folder s = config_folder s.variables
dconfs_spot the_profile s = nowhere
dconfs_spot the_runtime s = runtime_folder s

abbrev pub spot_by : StoreKind → What → Surroundings → Giver → Spot
spot_by own what s g = own_spot what s.variables g
spot_by dconfs what s g = dconfs_spot what s
spot_by unknown what s g = nowhere

abbrev pub spot_in : What → Surroundings → Giver → Spot
spot_in what s g = spot_by (kind_for s g) what s g

-- ---- a store that was found

-- a variable of a program that has more rights than whoever started it counts as unset
abbrev pub counted : Bool → List ℕ → List ℕ
counted counts text = if counts then text else []

-- Its folder; the profile that a program names, or the environment of our own kind; $DCONF_PROFILE; the runtime folder; $XDG_DATA_DIRS; and
-- the user's number. What there is none of is empty.
pub record Home : Type 0 where
  pub folder : List ℕ
  pub named : List ℕ
  pub profile : List ℕ
  pub runtime : List ℕ
  pub data_dirs : List ℕ
  pub user : List ℕ
  pub given : Bool
  pub in_place : Bool

-- the folder of dconf's databases of a kind
abbrev pub dconfs_folder : List ℕ → Kind → List ℕ
dconfs_folder folder user_db = folder
dconfs_folder folder system_db = codes "/etc/dconf/db"
dconfs_folder folder file_db = folder

-- the file is named as the profile names it
abbrev pub dconfs_path : List ℕ → Database → List ℕ
dconfs_path folder d = if starts_with_slash d.name then d.name else dconfs_folder folder d.kind ++ (codes "/" ++ d.name)

-- who has a user's database of dconf's open looks at a flag, by its name; empty: nobody does
abbrev pub flag_in : Home → Database → List ℕ
flag_in h d = if h.in_place && (is_user d.kind && not (is_empty h.runtime)) then h.runtime ++ (codes "/dconf/" ++ d.name) else []

-- the file of a profile's line
abbrev pub file_in : Home → List ℕ → Database → List ℕ
file_in h profile d = if h.in_place then dconfs_path h.folder d else database_path h.folder (is_beside profile h.given) d

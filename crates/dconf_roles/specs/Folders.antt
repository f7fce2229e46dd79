-- The role of a file by the folders that it is in, from the root on.
use Rattle.std.specs.Prelude.{ℕ, List, Bool, true, false, [], ◌∷◌, ◌+◌, nat_lt, if◌then◌else◌}
use Rattle.dconf_roles.specs.Roles.{as_file, in_folder, is_sources}
use Rattle.dconf_roles.specs.declared.roles.Role.{Role}
use Rattle.dconf_roles.specs.declared.sites.Within.{Within}

-- that of the files of the last one
unfoldable pub role_in : List (List ℕ) → Role → Role
role_in [] role = role
role_in (folder ∷ others) role = role_in others (in_folder role folder)

abbrev pub role_of : List (List ℕ) → List ℕ → Role
role_of folders name = as_file (role_in folders Role.ByItsText) name

-- one folder more before so many up to the last NAME.d
abbrev pub up_to : List ℕ → ℕ → ℕ
up_to name behind = if nat_lt 0 behind then behind + 1 else if is_sources name then 1 else 0

-- how many there are up to the last NAME.d; 0: there is none
unfoldable pub sources_in : List (List ℕ) → ℕ
sources_in [] = 0
sources_in (folder ∷ others) = up_to folder (sources_in others)

-- `update` reads it
abbrev pub is_read : Role → Bool
is_read Role.ByItsText = false
is_read Role.Keyfile = true
is_read Role.Locks = true
is_read Role.Hidden = false
is_read Role.Unread = false

-- what is in a folder of that role is looked at in NAME.d, in its `locks`, or in the site as a whole
abbrev pub within_by : Role → Within
within_by Role.Keyfile = Within.Sources
within_by Role.Locks = Within.Locks
within_by role = Within.Site

abbrev pub looked_within : List (List ℕ) → Within
looked_within folders = within_by (role_in folders Role.ByItsText)

-- as part_of takes it
abbrev pub within_number : Within → ℕ
within_number Within.Site = 1
within_number Within.Sources = 2
within_number Within.Locks = 3
within_number Within.Profiles = 4

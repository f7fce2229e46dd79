-- Where the service has files of its own; and which file it keeps open.
use Rattle.std.specs.Prelude.{ℕ, Bool, true, ◌≡◌, ◌≢◌, ◌||◌, ◌==◌, if◌then◌else◌}
use Rattle.dconf_served.specs.declared.folders.Folder.{Folder}
use Rattle.dconf_served.specs.declared.folders.Folder.TheVariants.{Places, Runtime, Cache}

-- the first of the place's and the runtime folder that has an absolute path; else the cache
abbrev pub folder_for : Bool → Bool → Folder
folder_for is_places is_runtime = if is_places then Places else if is_runtime then Runtime else Cache

abbrev pub folder_number : Folder → ℕ
folder_number Places = 0
folder_number Runtime = 1
folder_number Cache = 2

-- on ext2, ext3, ext4 and tmpfs, by their numbers in <linux/magic.h>: there what nobody has open is freed, and no other name is given to it first
abbrev pub is_kept_open : ℕ → Bool
is_kept_open system = (system == 61267) || (system == 16914836)

-- ---- the law

pub record IsInAFolder (is_places is_runtime : Bool) : Type 0 where
  -- no folder without an absolute path is taken
  pub places : folder_for is_places is_runtime ≡ Places → is_places ≡ true
  pub runtime : folder_for is_places is_runtime ≡ Runtime → is_runtime ≡ true
  -- and the cache only if there is no other
  pub cache : folder_for is_places is_runtime ≡ Cache → (is_places ≢ true) × (is_runtime ≢ true)

abbrev pub ProfilesHaveAFolder : Type 0
ProfilesHaveAFolder = (is_places is_runtime : Bool) → IsInAFolder is_places is_runtime

-- What C is told of bytes that are no sound database.
use Rattle.std.specs.Prelude.{◌≡◌, ℕ, List, Option, Some, None, Bool, false, if◌then◌else◌}
use Rattle.dconf_model.specs.Databases.{IsBad, Verdict}
use Rattle.dconf_model.specs.Databases.Verdict.{no_database, sound, unsound}
use Rattle.dconf_model.specs.Opening.{OpenFault}
use Rattle.dconf_model.specs.Opening.OpenFault.{short, bad_signature, bad_version, bad_root, bad_table}
use Rattle.dconf_model.specs.Sound.{rule_number}
use Rattle.dconfdb_calls.specs.declared.opened.DconfdbUnsound.{DconfdbUnsound}

-- the bytes of a file, if there is one
abbrev pub bytes_if : Bool → List ℕ → Option (List ℕ)
bytes_if there bytes = if there then Some bytes else None

abbrev pub open_number : OpenFault → ℕ
open_number short = 2
open_number bad_signature = 3
open_number bad_version = 4
open_number bad_root = 5
open_number bad_table = 6

abbrev pub verdict_number : Verdict → ℕ
verdict_number (no_database fault) = open_number fault
verdict_number sound = 0
verdict_number (unsound rule item) = 7

abbrev pub item_told : DconfdbUnsound → Option ℕ
item_told told = if told.has_item then Some told.item else None

-- what is said of no rule
abbrev pub IsSilent : DconfdbUnsound → Type 0
IsSilent told = (told.rule ≡ 0) × (told.item ≡ 0) × (told.has_item ≡ false)

-- of a database that breaks a rule it says which, and at which item
abbrev pub SaysRule : Verdict → DconfdbUnsound → Type 0
SaysRule (unsound rule item) told = (told.rule ≡ rule_number rule) × (item_told told ≡ item)
SaysRule _ told = IsSilent told

-- what they are is told
abbrev pub IsToldOf : Option (List ℕ) → ℕ → DconfdbUnsound → Type 0
IsToldOf file number told = (v : Verdict) × IsBad file v × (number ≡ verdict_number v) × SaysRule v told

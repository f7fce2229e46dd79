-- How the faults of a store are printed, and the line that each of them is on err.
-- The names and the form of the lines are this project's.
use Rattle.std.specs.Prelude.{ℕ, List, [], ◌∷◌, ◌++◌, codes, decimal, Option, Some, None}
use Rattle.gv_model.specs.FaultTexts.{text_fault_text, value_fault_text}
use Rattle.dconf_model.specs.Paths.{PathFault}
use Rattle.dconf_model.specs.Paths.PathFault.{not_absolute, has_nul, double_slash, ends_in_slash, no_end_slash, too_long}
use Rattle.dconf_model.specs.Opening.{OpenFault}
use Rattle.dconf_model.specs.Opening.OpenFault.{short, bad_signature, bad_version, bad_root, bad_table}
use Rattle.dconf_model.specs.Sound.{Rule, rule_number}
use Rattle.dconf_model.specs.Causes.{SettingsCause}
use Rattle.dconf_model.specs.Causes.SettingsCause.{too_big, not_utf8, lock_not_key, bad_line, service_db, user_not_first, too_many, no_group, bad_group, bad_key_name, path_fault, text_fault, value_fault, too_large}

-- ---- paths, and texts of settings

abbrev pub path_fault_text : PathFault → List ℕ
path_fault_text not_absolute = codes "NotAbsolute"
path_fault_text has_nul = codes "HasNul"
path_fault_text double_slash = codes "DoubleSlash"
path_fault_text ends_in_slash = codes "EndsInSlash"
path_fault_text no_end_slash = codes "NoEndSlash"
path_fault_text too_long = codes "TooLong"

abbrev pub cause_text : SettingsCause → List ℕ
cause_text too_big = codes "TooBig"
cause_text not_utf8 = codes "NotUtf8"
cause_text lock_not_key = codes "LockNotKey"
cause_text bad_line = codes "BadLine"
cause_text service_db = codes "ServiceDb"
cause_text user_not_first = codes "UserNotFirst"
cause_text too_many = codes "TooMany"
cause_text no_group = codes "NoGroup"
cause_text bad_group = codes "BadGroup"
cause_text bad_key_name = codes "BadKeyName"
cause_text (path_fault f) = path_fault_text f
cause_text (text_fault f) = text_fault_text f
cause_text (value_fault f) = value_fault_text f
cause_text too_large = codes "TooLarge"

-- ---- databases

abbrev pub open_fault_text : OpenFault → List ℕ
open_fault_text short = codes "Short"
open_fault_text bad_signature = codes "BadSignature"
open_fault_text bad_version = codes "BadVersion"
open_fault_text bad_root = codes "BadRoot"
open_fault_text bad_table = codes "BadTable"

abbrev pub rule_text : Rule → List ℕ
rule_text rule = codes "S" ++ decimal (rule_number rule)

abbrev pub item_text : Option ℕ → List ℕ
item_text None = []
item_text (Some i) = codes " item " ++ decimal i

-- the rule that is broken, and the item that breaks it
abbrev pub broken_text : Rule → Option ℕ → List ℕ
broken_text rule item = rule_text rule ++ item_text item

abbrev pub unsound_text : Rule → Option ℕ → List ℕ
unsound_text rule item = codes "unsound: " ++ broken_text rule item

-- ---- lines, without `error: `

-- a word and what it is about
abbrev pub about : List ℕ → List ℕ → List ℕ
about word subject = word ++ 32 ∷ subject

-- a fault at a line of a file
abbrev pub line_fault_text : List ℕ → ℕ → SettingsCause → List ℕ
line_fault_text file line cause = file ++ (58 ∷ (decimal line ++ (codes ": " ++ cause_text cause)))

abbrev pub no_file_text : List ℕ → List ℕ
no_file_text file = about (codes "NoFile") file

abbrev pub device_text : List ℕ → List ℕ
device_text file = about (codes "Device") file

-- the database of that number, and what is wrong with it
abbrev pub bad_database_text : ℕ → List ℕ → List ℕ
bad_database_text i why = codes "BadDatabase " ++ (decimal i ++ (codes ": " ++ why))

-- What a fault of a line is called, and what that means.
use Rattle.std.specs.Prelude.{ℕ, List, [], ◌++◌, codes}
use Rattle.dconf_model.specs.Causes.{SettingsCause}
use Rattle.dconf_model.specs.Causes.SettingsCause.{not_utf8, bad_line, no_group, bad_group, bad_key_name, path_fault, lock_not_key}
use Rattle.dconf_model.specs.FaultTexts.{cause_text}
use Rattle.dconf_model.specs.Paths.PathFault.{too_long}
use Rattle.keyfile_lines.specs.declared.fault.LineFault.{LineFault}
use Rattle.keyfile_lines.specs.declared.fault.LineFault.TheVariants.{NotUtf8, BadLine, NoGroup, BadGroup, BadKeyName, TooLong, LockNotKey}

abbrev pub cause_of : LineFault → SettingsCause
cause_of NotUtf8 = not_utf8
cause_of BadLine = bad_line
cause_of NoGroup = no_group
cause_of BadGroup = bad_group
cause_of BadKeyName = bad_key_name
cause_of TooLong = path_fault too_long
cause_of LockNotKey = lock_not_key

abbrev pub meaning_of : SettingsCause → List ℕ
meaning_of not_utf8 = codes ": the line is not UTF-8"
meaning_of bad_line = codes ": the line is no 'key=value'"
meaning_of no_group = codes ": the key comes before the first group"
meaning_of bad_group = codes ": the line names no group; its keys are left out here"
meaning_of bad_key_name = codes ": the key is empty, or has a slash, a bracket or a control character"
meaning_of lock_not_key = codes ": the line starts with '/' and is not a path"
meaning_of (path_fault f) = codes ": the path of the key has more than 65,535 bytes"
meaning_of _ = []

-- the name is the one by which `compile` prints it
abbrev pub words_of : SettingsCause → List ℕ
words_of cause = cause_text cause ++ meaning_of cause

abbrev pub idle_words : List ℕ
idle_words = codes "the line locks nothing: it doesn't start with '/'"

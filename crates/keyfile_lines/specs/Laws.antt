-- What the readings of all lines give together: what keyfile_core reads of the file.
use Rattle.std.specs.Prelude.{◌≡◌, ◌≤◌, ℕ, ◌+◌, Bool, true, false, if◌then◌else◌, List, [], ◌∷◌, length, Option, Some, None, Result, Ok}
use Rattle.dconf_model.specs.Causes.{SettingsCause}
use Rattle.dconf_model.specs.Causes.SettingsCause.{not_utf8}
use Rattle.dconf_model.specs.Keyfiles.{Row, rows_of}
use Rattle.dconf_model.specs.Lines.{LineReading, LineFault, fault_at_line, lines_of, longest_text, put_first}
use Rattle.dconf_model.specs.Lines.LineReading.{nothing, found, wrong}
use Rattle.keyfile_lines.specs.Answers.{readings_in}
use Rattle.keyfile_lines.specs.Answers.Place.{before}

abbrev pub numbered : ℕ → LineReading Row → LineReading Row
numbered n (found row) = found (record { line = n; group = row.group; key = row.key; text = row.text })
numbered n nothing = nothing
numbered n (wrong cause) = wrong cause

-- after so many lines: their rows, or the first one that is wrong
abbrev pub together : ℕ → List (LineReading Row) → Result (List Row) LineFault
together n [] = Ok []
together n (reading ∷ more) = put_first (n + 1) (numbered (n + 1) reading) (together (n + 1) more)

abbrev pub is_not_utf8 : SettingsCause → Bool
is_not_utf8 not_utf8 = true
is_not_utf8 _ = false

abbrev pub is_no_text : LineReading Row → Bool
is_no_text (wrong cause) = is_not_utf8 cause
is_no_text (found row) = false
is_no_text nothing = false

-- the first line that is not UTF-8
abbrev pub first_no_text : ℕ → List (LineReading Row) → Option ℕ
first_no_text n [] = None
first_no_text n (reading ∷ more) = if is_no_text reading then Some (n + 1) else first_no_text (n + 1) more

abbrev pub or_together : Option ℕ → List (LineReading Row) → Result (List Row) LineFault
or_together (Some line) readings = fault_at_line line not_utf8
or_together None readings = together 0 readings

-- bytes that are not UTF-8 come before any other fault
abbrev pub as_a_whole : List (LineReading Row) → Result (List Row) LineFault
as_a_whole readings = or_together (first_no_text 0 readings) readings

abbrev pub ReadsAsAWhole : Type 0
ReadsAsAWhole = (bytes : List ℕ) → length bytes ≤ longest_text → as_a_whole (readings_in before (lines_of bytes)) ≡ rows_of bytes

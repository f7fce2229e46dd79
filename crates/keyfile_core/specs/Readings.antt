-- What the lines that are left of a keyfile give, below a group and a number of lines that were read.
use Rattle.std.specs.Prelude.{ℕ, ◌+◌, ◌&&◌, not, if◌then◌else◌, List, [], ◌∷◌, Option, Some, None, Result, Ok, Err}
use Rattle.std.specs.List.{list_any}
use Rattle.dconf_model.specs.Paths.{has_zero_byte}
use Rattle.dconf_model.specs.Causes.SettingsCause.{bad_line, no_group}
use Rattle.dconf_model.specs.Lines.{LineReading, LineFault, put_first}
use Rattle.dconf_model.specs.Lines.LineReading.{nothing, found, wrong}
use Rattle.dconf_model.specs.Keyfiles.{Row as KeyfileRow, LineKind, without_blanks, line_kind, group_in, group_named, is_equals, entry_in, or_bad_group, row_if}
use Rattle.dconf_model.specs.Keyfiles.LineKind.{empty, bracket, entry}
use Rattle.keyfile_core.specs.declared.fault.KeyfileCause.{KeyfileCause}
use Rattle.keyfile_core.specs.declared.rows.Row.{Row}
use Rattle.keyfile_core.specs.KeyfileFaults.{cause_of}
use Rattle.keyfile_core.specs.Rows.{row_meant}

abbrev pub kind_meant : LineKind → Option (List ℕ) → ℕ → List ℕ → LineReading KeyfileRow
kind_meant empty group line s = nothing
kind_meant bracket group line s = or_bad_group (group_in s)
kind_meant entry group line s = if list_any is_equals s && not (has_zero_byte s) then entry_in group line s else wrong bad_line

-- a line of that number, without its blanks, below that group
abbrev pub line_meant : Option (List ℕ) → ℕ → List ℕ → LineReading KeyfileRow
line_meant group line s = kind_meant (line_kind s) group line s

abbrev pub or_before : Option (List ℕ) → Option (List ℕ) → Option (List ℕ)
or_before group (Some named) = Some named
or_before group None = group

abbrev pub group_after : Option (List ℕ) → List ℕ → Option (List ℕ)
group_after group s = or_before group (group_named (line_kind s) s)

abbrev pub read_below : Option (List ℕ) → ℕ → List (List ℕ) → Result (List KeyfileRow) LineFault
read_below group n [] = Ok []
read_below group n (l ∷ more) = put_first (n + 1) (line_meant group (n + 1) (without_blanks l)) (read_below (group_after group (without_blanks l)) (n + 1) more)

-- ---- as the code says it

abbrev pub reading_of : Result (Option Row) KeyfileCause → LineReading KeyfileRow
reading_of (Ok None) = nothing
reading_of (Ok (Some row)) = found (row_meant row)
reading_of (Err cause) = wrong (cause_of cause)

-- the row of a key and its value's text
abbrev pub row_read : Option (List ℕ) → ℕ → List ℕ → List ℕ → LineReading KeyfileRow
row_read None line key text = wrong no_group
row_read (Some group) line key text = row_if (record { line = line; group = group; key = key; text = text })

abbrev pub row_reading : Result Row KeyfileCause → LineReading KeyfileRow
row_reading (Ok row) = found (row_meant row)
row_reading (Err cause) = wrong (cause_of cause)

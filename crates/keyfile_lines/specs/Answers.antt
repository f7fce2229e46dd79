-- What is said of each line of a keyfile, and of a lock file, whatever is wrong with those before it. What a line means is keyfile_core's
-- word and dconf_model's; this says of which group it is read, and what is left out.
use Rattle.std.specs.Prelude.{ℕ, List, [], ◌∷◌, codes, Option, Some, None, if◌then◌else◌}
use Rattle.std.specs.Str.{is_utf8}
use Rattle.dconf_model.specs.Causes.{SettingsCause}
use Rattle.dconf_model.specs.Causes.SettingsCause.{not_utf8, path_fault}
use Rattle.dconf_model.specs.Paths.{is_short}
use Rattle.dconf_model.specs.Paths.PathFault.{too_long}
use Rattle.dconf_model.specs.Lines.{LineReading}
use Rattle.dconf_model.specs.Lines.LineReading.{nothing, found, wrong}
use Rattle.dconf_model.specs.Keyfiles.{Row, Setting, LineKind, group_in, line_kind, path_of, setting_of, without_blanks}
use Rattle.dconf_model.specs.Keyfiles.LineKind.{empty, bracket, entry}
use Rattle.dconf_model.specs.Locks.{LockLine, lock_line}
use Rattle.keyfile_core.specs.Readings.{line_meant, row_read}

-- ---- where a line of a keyfile stands

pub data Place : Type 0 where
  -- before the first line in brackets
  before : Place
  -- in a group
  inside : List ℕ → Place
  -- after a line in brackets that names no group
  lost : Place

abbrev pub named : Option (List ℕ) → Place
named (Some group) = inside group
named None = lost

abbrev pub place_by : LineKind → Place → List ℕ → Place
place_by bracket place s = named (group_in s)
place_by empty place s = place
place_by entry place s = place

-- where the line after this one stands
abbrev pub place_after : Place → List ℕ → Place
place_after place line = if is_utf8 line then place_by (line_kind (without_blanks line)) place (without_blanks line) else place

-- ---- what a line means there

abbrev pub if_text : {X : Type 0} → List ℕ → LineReading X → LineReading X
if_text line reading = if is_utf8 line then reading else wrong not_utf8

-- a key that nobody knows the group of is left out, and is looked at as if it had one
abbrev pub left_out : LineReading Row → LineReading Row
left_out (found row) = nothing
left_out nothing = nothing
left_out (wrong cause) = wrong cause

-- by keyfile_core's reading below a group. The line's number is left open: it is 0
abbrev pub line_in : Place → List ℕ → LineReading Row
line_in before s = line_meant None 0 s
line_in (inside group) s = line_meant (Some group) 0 s
line_in lost s = left_out (line_meant (Some (codes "/")) 0 s)

abbrev pub reading_in : Place → List ℕ → LineReading Row
reading_in place line = if_text line (line_in place (without_blanks line))

abbrev pub readings_in : Place → List (List ℕ) → List (LineReading Row)
readings_in place [] = []
readings_in place (l ∷ more) = reading_in place l ∷ readings_in (place_after place l) more

-- the same of a line that is a key and its value's text
abbrev pub entry_read : Place → List ℕ → List ℕ → LineReading Row
entry_read before key text = row_read None 0 key text
entry_read (inside group) key text = row_read (Some group) 0 key text
entry_read lost key text = left_out (row_read (Some (codes "/")) 0 key text)

-- ---- what is said of it

pub data Answer : Type 0 where
  silent : Answer
  sets : Setting → Answer
  locks : List ℕ → Answer
  -- in a lock file: it locks nothing, and is neither empty nor a comment
  idle : Answer
  refused : SettingsCause → Answer

-- a row's path is looked at as it is when a keyfile is compiled
abbrev pub row_answer : Row → Answer
row_answer row = if is_short (path_of (codes "/") row) then sets (setting_of (codes "/") row) else refused (path_fault too_long)

abbrev pub answer_of : LineReading Row → Answer
answer_of nothing = silent
answer_of (found row) = row_answer row
answer_of (wrong cause) = refused cause

-- ---- lock files: a line says the same wherever it stands

abbrev pub if_empty : LineKind → Answer
if_empty empty = silent
if_empty bracket = idle
if_empty entry = idle

abbrev pub of_lock : LineReading LockLine → List ℕ → Answer
of_lock (found lock) line = locks lock.path
of_lock (wrong cause) line = refused cause
of_lock nothing line = if_empty (line_kind (without_blanks line))

abbrev pub lock_answer : List ℕ → Answer
lock_answer line = of_lock (if_text line (lock_line [] line)) line

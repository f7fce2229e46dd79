-- What keyfiles and lock files give: at each path of a row the value of its last row, and the locks; or the first line at
-- fault. dconf(1), "compile": the files are taken in the order of their names.
use Rattle.std.specs.Prelude.{◌≡◌, ℕ, List, [], ◌∷◌, ◌++◌, codes, Option, Some, None, Result, Ok, Err, Bool, true, false, if◌then◌else◌, ◌&&◌, option_map, filter_map}
use Rattle.std.specs.List.{last_or, enumerate_from, list_any}
use Rattle.std.specs.Str.{bytes_eq}
use Rattle.std.specs.FinMap.{get, contains_key}
use Rattle.gv_model.specs.Tree.{Tree}
use Rattle.dconf_model.specs.Paths.{is_short}
use Rattle.dconf_model.specs.Paths.PathFault.{too_long}
use Rattle.dconf_model.specs.Settings.{Settings}
use Rattle.dconf_model.specs.Causes.{SettingsCause}
use Rattle.dconf_model.specs.Causes.SettingsCause.{path_fault}
use Rattle.dconf_model.specs.Lines.{LineReading, LineFault, fault_at_line, put_first, read_file}
use Rattle.dconf_model.specs.Lines.LineReading.{nothing, found, wrong}
use Rattle.dconf_model.specs.Doubles.{is_double_cause}
use Rattle.dconf_model.specs.Order.{in_order}
use Rattle.dconf_model.specs.Values.{value_of_text, if_storable, stored}
use Rattle.dconf_model.specs.Keyfiles.{Row, rows_of, path_of}
use Rattle.dconf_model.specs.Locks.{LockLine, locks_in}

-- ---- one keyfile

-- a path and the value that a row gives it
pub record Assigned : Type 0 where
  pub path : List ℕ
  pub value : Tree

abbrev pub assigned : List ℕ → Result Tree SettingsCause → LineReading Assigned
assigned p (Ok v) = found (record { path = p; value = v })
assigned p (Err c) = wrong c

-- the path's length is looked at first, and then the value's text
abbrev pub row_read : (List ℕ → Result Tree SettingsCause) → List ℕ → List ℕ → LineReading Assigned
row_read read p text = if is_short p then assigned p (read text) else wrong (path_fault too_long)

abbrev pub rows_read : (List ℕ → Result Tree SettingsCause) → List ℕ → List Row → Result (List Assigned) LineFault
rows_read read directory [] = Ok []
rows_read read directory (r ∷ more) = put_first r.line (row_read read (path_of directory r) r.text) (rows_read read directory more)

abbrev pub and_rows : {X : Type 0} → (List Row → Result X LineFault) → Result (List Row) LineFault → Result X LineFault
and_rows f (Ok rows) = f rows
and_rows f (Err e) = Err e

-- All lines are read first. To be compiled, a value has to be one that can be stored.
abbrev pub compiled : List ℕ → Result (List Assigned) LineFault
compiled bytes = and_rows (rows_read (λ text. if_storable (value_of_text text)) (codes "/")) (rows_of bytes)

-- ---- a keyfile that is loaded, where a value has only to be one

-- what rows set, and the paths of those that are left out
pub record Loaded : Type 0 where
  pub rows : List Assigned
  pub left_out : List (List ℕ)

abbrev pub nothing_loaded : Loaded
nothing_loaded = record { rows = []; left_out = [] }

abbrev pub set_first : Assigned → Result Loaded LineFault → Result Loaded LineFault
set_first row (Ok l) = Ok (record { rows = row ∷ l.rows; left_out = l.left_out })
set_first row (Err f) = Err f

abbrev pub leave_first : List ℕ → Result Loaded LineFault → Result Loaded LineFault
leave_first path (Ok l) = Ok (record { rows = l.rows; left_out = path ∷ l.left_out })
leave_first path (Err f) = Err f

abbrev pub leave_or_stop : Bool → ℕ → List ℕ → SettingsCause → Result Loaded LineFault → Result Loaded LineFault
leave_or_stop true line path cause rest = leave_first path rest
leave_or_stop false line path cause rest = fault_at_line line cause

-- a row that is refused for a double in its text is left out where doubles are skipped
abbrev pub take_first : Bool → ℕ → List ℕ → LineReading Assigned → Result Loaded LineFault → Result Loaded LineFault
take_first skip line path nothing rest = rest
take_first skip line path (found row) rest = set_first row rest
take_first skip line path (wrong cause) rest = leave_or_stop (skip && is_double_cause cause) line path cause rest

abbrev pub rows_taken : Bool → List ℕ → List Row → Result Loaded LineFault
rows_taken skip directory [] = Ok nothing_loaded
rows_taken skip directory (r ∷ more) =
    take_first skip r.line (path_of directory r) (row_read value_of_text (path_of directory r) r.text) (rows_taken skip directory more)

abbrev pub loaded : Bool → List ℕ → List ℕ → Result Loaded LineFault
loaded skip directory bytes = and_rows (rows_taken skip directory) (rows_of bytes)

-- ---- files

pub record Source : Type 0 where
  pub name : List ℕ
  pub bytes : List ℕ

-- a keyfile or a lock file, by its number as it was handed in
pub data File : Type 0 where
  keyfile : ℕ → File
  lock_file : ℕ → File

pub record FileFault : Type 0 where
  pub file : File
  pub line : ℕ
  pub cause : SettingsCause

abbrev pub and_more : {X : Type 0} → File → Result (List X) LineFault → Result (List X) FileFault → Result (List X) FileFault
and_more file (Err f) more = Err (record { file = file; line = f.line; cause = f.cause })
and_more file (Ok xs) (Ok ys) = Ok (xs ++ ys)
and_more file (Ok xs) (Err f) = Err f

-- files by their numbers, each read, up to the first fault
abbrev pub in_files : {X : Type 0} → (ℕ → File) → (List ℕ → Result (List X) LineFault) → List (ℕ × Source) → Result (List X) FileFault
in_files kind read [] = Ok []
in_files kind read (s ∷ more) = and_more (kind s.0) (read s.1.bytes) (in_files kind read more)

-- keyfiles in the byte order of their names, those of one name as they were handed in
abbrev pub taken : List Source → List (ℕ × Source)
taken files = in_order (λ s. s.1.name) (enumerate_from 0 files)

-- ---- all of them

pub record Given : Type 0 where
  pub values : List Assigned
  pub locks : List LockLine

abbrev pub and_locks : Result (List Assigned) FileFault → Result (List LockLine) FileFault → Result Given FileFault
and_locks (Err f) locks = Err f
and_locks (Ok values) (Err f) = Err f
and_locks (Ok values) (Ok locks) = Ok (record { values = values; locks = locks })

-- keyfiles first, and then lock files
abbrev pub given : List Source → List Source → Result Given FileFault
given files locks =
    and_locks (in_files keyfile compiled (taken files)) (in_files lock_file (read_file locks_in) (enumerate_from 0 locks))

-- the value that the last row of a path gives it
abbrev pub value_if_at : List ℕ → Assigned → Option Tree
value_if_at p a = if bytes_eq a.path p then Some a.value else None

abbrev pub last_value : List Assigned → List ℕ → Option Tree
last_value values p = last_or None (filter_map (value_if_at p) values)

-- the settings that are given
pub record AreGiven (g : Given) (s : Settings) : Type 0 where
  pub values : (p : List ℕ) → get s.values p ≡ option_map stored (last_value g.values p)
  pub locks : (p : List ℕ) → contains_key s.locks p ≡ list_any (λ lock. bytes_eq lock.path p) g.locks

-- the file that is taken first: a keyfile, or the first lock file where there is none
abbrev pub first_file : List (ℕ × Source) → File
first_file [] = lock_file 0
first_file (s ∷ more) = keyfile s.0

-- Locks, and the files that list them: dconf(7), "Locks". A lock is the path of a key, which locks that key, or the path of a
-- directory, which locks all keys below it.
use Rattle.std.specs.Prelude.{ℕ, ◌+◌, List, [], ◌∷◌, ◌++◌, length, Option, Result, Bool, if◌then◌else◌, nat_eq, ◌||◌, ◌&&◌}
use Rattle.std.specs.List.{starts_with}
use Rattle.std.specs.Str.{bytes_eq}
use Rattle.dconf_model.specs.Paths.{PathFault, is_path, starts_with_slash, ends_with_slash, first_path_fault, questions_of_bytes, question_of_length}
use Rattle.dconf_model.specs.Causes.SettingsCause.{lock_not_key}
use Rattle.dconf_model.specs.Lines.{LineReading, LineFault, read_lines}
use Rattle.dconf_model.specs.Lines.LineReading.{nothing, found, wrong}

-- the first fault of a text as the path of a lock: whether it ends in a slash is not asked
abbrev pub lock_fault : List ℕ → Option PathFault
lock_fault text = first_path_fault (questions_of_bytes text ++ question_of_length text ∷ [])

abbrev pub is_below : List ℕ → List ℕ → Bool
is_below path directory = starts_with nat_eq path directory

-- a lock covers the path that it is, and each path that starts with it where it is a directory's
abbrev pub covers : List ℕ → List ℕ → Bool
covers lock path = bytes_eq lock path || (ends_with_slash lock && is_below path lock)

-- ---- lock files

-- the path of a lock, and its line
pub record LockLine : Type 0 where
  pub path : List ℕ
  pub line : ℕ

-- A line that starts with `/` is a lock, as it is, blanks and all; any other says nothing.
abbrev pub lock_line : List (List ℕ) → List ℕ → LineReading LockLine
lock_line earlier line =
    if starts_with_slash line
    then (if is_path line then found (record { path = line; line = length earlier + 1 }) else wrong lock_not_key)
    else nothing

abbrev pub locks_in : List ℕ → Result (List LockLine) LineFault
locks_in text = read_lines lock_line text

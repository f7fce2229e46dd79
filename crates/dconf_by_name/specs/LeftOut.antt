-- The keys that `load` and `reset` leave as they are: locked ones, as dconf names them, and those with a double in their text.
use Rattle.std.specs.Prelude.{ℕ, List, [], ◌++◌, codes, Bool, flat_map, ◌==◌, Result, Ok, Err, if◌then◌else◌, length}
use Rattle.std.specs.List.{list_any, slice_split}
use Rattle.dconf_model.specs.Keyfiles.{Row, path_of, rows_of}
use Rattle.dconf_model.specs.Lines.{LineFault}
use Rattle.dconf_model.specs.Locks.{covers}

abbrev pub is_locked : List (List ℕ) → List ℕ → Bool
is_locked locks path = list_any (λ lock. covers lock path) locks

abbrev pub warning_of : List ℕ → List ℕ
warning_of path = codes "warning: ignored non-writable key '" ++ (path ++ codes "'\n")

abbrev pub warning_if_locked : List (List ℕ) → List ℕ → List ℕ
warning_if_locked locks path = if is_locked locks path then warning_of path else []

-- in the order of the rows
abbrev pub ignored_rows : List (List ℕ) → List ℕ → List Row → List ℕ
ignored_rows locks directory rows = flat_map (λ row. warning_if_locked locks (path_of directory row)) rows

abbrev pub ignored_if_read : List (List ℕ) → List ℕ → Result (List Row) LineFault → List ℕ
ignored_if_read locks directory (Ok rows) = ignored_rows locks directory rows
ignored_if_read locks directory (Err fault) = []

-- of the keyfile that was loaded below a directory, and the lines that `list-locks /` printed
abbrev pub ignored : List ℕ → List ℕ → List ℕ → List ℕ
ignored listed directory keyfile = ignored_if_read (slice_split (λ c. c == 10) listed) directory (rows_of keyfile)

-- whether a lock among those lines is the key's
abbrev pub is_ignored : List ℕ → List ℕ → Bool
is_ignored listed path = is_locked (slice_split (λ c. c == 10) listed) path

-- ---- doubles

abbrev pub double_warning_of : List ℕ → List ℕ
double_warning_of path =
    if length path == 0 then [] else codes "warning: ignored key '" ++ (path ++ codes "': a double's text is not read\n")

abbrev pub doubles_of : List (List ℕ) → List ℕ
doubles_of paths = flat_map double_warning_of paths

-- of the lines that `load --skip-doubles` printed
abbrev pub doubles : List ℕ → List ℕ
doubles listed = doubles_of (slice_split (λ c. c == 10) listed)

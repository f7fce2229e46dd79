-- Profiles: the databases of a store, one a line, the first one first. dconf(7), "Profiles".
--
-- From `#` on a line is comment. Spaces, tabs and carriage returns at both ends are dropped. A line that is empty then says
-- nothing. The user's database comes first or not at all, and there are 64 databases at most.
use Rattle.std.specs.Prelude.{ℕ, List, [], ◌∷◌, ◌++◌, length, drop, codes, Result, Bool, true, false, if◌then◌else◌, nat_lt, nat_eq, ◌==◌, ◌&&◌, not}
use Rattle.std.specs.List.{before_first, count_by, list_any, starts_with}
use Rattle.gv_model.specs.Texts.{has_zero_byte}
use Rattle.dconf_model.specs.Causes.SettingsCause.{bad_line, service_db, user_not_first, too_many}
use Rattle.dconf_model.specs.Lines.{LineReading, LineFault, read_lines, read_file, without_start, without_end, is_line_blank}
use Rattle.dconf_model.specs.Lines.LineReading.{nothing, found, wrong}

pub data Kind : Type 0 where
  user_db : Kind
  system_db : Kind
  file_db : Kind

pub record Database : Type 0 where
  pub kind : Kind
  pub name : List ℕ

abbrev pub is_user : Kind → Bool
is_user user_db = true
is_user _ = false

abbrev pub kind_text : Kind → List ℕ
kind_text user_db = codes "user-db:"
kind_text system_db = codes "system-db:"
kind_text file_db = codes "file-db:"

-- the profile's line of a database, without comment and the blanks at both ends
abbrev pub database_text : Database → List ℕ
database_text d = kind_text d.kind ++ d.name

-- the name of the file that holds it
abbrev pub file_of_kind : Kind → List ℕ → List ℕ
file_of_kind user_db name = name ++ codes ".user"
file_of_kind system_db name = name ++ codes ".db"
file_of_kind file_db name = name

abbrev pub database_file : Database → List ℕ
database_file d = file_of_kind d.kind d.name

-- a file's path may have slashes, another name has none
abbrev pub may_have_slash : Kind → Bool
may_have_slash file_db = true
may_have_slash _ = false

abbrev pub is_name : Kind → List ℕ → Bool
is_name kind name =
    nat_lt 0 (length name) && not (has_zero_byte name) && (if may_have_slash kind then true else not (list_any (λ c. c == 47) name))

-- the first database may be written where it is the user's
abbrev pub has_writable : List Database → Bool
has_writable [] = false
has_writable (d ∷ more) = is_user d.kind

abbrev pub user_file : List Database → List ℕ
user_file [] = []
user_file (d ∷ more) = database_file d

-- ---- lines

-- a line without its comment and the blanks at both ends
abbrev pub entry_of_line : List ℕ → List ℕ
entry_of_line line = without_start is_line_blank (without_end is_line_blank (before_first (λ c. c == 35) line))

-- how many lines say something
abbrev pub entries_in : List (List ℕ) → ℕ
entries_in lines = count_by (λ line. nat_lt 0 (length (entry_of_line line))) lines

-- a database after so many others
abbrev pub database_line : ℕ → Kind → List ℕ → LineReading Database
database_line before kind name =
    if not (is_name kind name) then wrong bad_line
    else if is_user kind && nat_lt 0 before then wrong user_not_first
    else if nat_lt 63 before then wrong too_many
    else found (record { kind = kind; name = name })

abbrev pub without_prefix : List ℕ → List ℕ → List ℕ
without_prefix text prefix = drop (length prefix) text

abbrev pub entry_line : ℕ → List ℕ → LineReading Database
entry_line before text =
    if length text == 0 then nothing
    else if starts_with nat_eq text (codes "service-db:") then wrong service_db
    else if starts_with nat_eq text (kind_text user_db) then database_line before user_db (without_prefix text (kind_text user_db))
    else if starts_with nat_eq text (kind_text system_db) then database_line before system_db (without_prefix text (kind_text system_db))
    else if starts_with nat_eq text (kind_text file_db) then database_line before file_db (without_prefix text (kind_text file_db))
    else wrong bad_line

-- ---- profiles

-- the databases of a text, or its first line at fault
abbrev pub databases_in : List ℕ → Result (List Database) LineFault
databases_in text = read_lines (λ earlier line. entry_line (entries_in earlier) (entry_of_line line)) text

-- and of a file
abbrev pub profile_of : List ℕ → Result (List Database) LineFault
profile_of bytes = read_file databases_in bytes

-- What a text is, by its lines.
use Rattle.std.specs.Prelude.{ℕ, Bool, false, ◌||◌, List, [], ◌∷◌, codes, if◌then◌else◌, nat_eq}
use Rattle.std.specs.List.{starts_with}
use Rattle.std.specs.Str.{is_utf8}
use Rattle.dconf_model.specs.Keyfiles.{LineKind, line_kind, without_blanks}
use Rattle.dconf_model.specs.Keyfiles.LineKind.{empty, bracket, entry}
use Rattle.dconf_model.specs.Paths.{has_zero_byte, starts_with_slash}
use Rattle.dconf_model.specs.Profiles.{kind_text}
use Rattle.dconf_model.specs.Profiles.Kind.{user_db, system_db, file_db}
use Rattle.keyfile_lines.specs.declared.kinds.TextKind.{TextKind}
use Rattle.keyfile_lines.specs.declared.kinds.Sign.{Sign}

-- what a line says of its text
pub data LineSign : Type 0 where
  silent : LineSign
  says : TextKind → LineSign
  -- of a profile, if no line before it says anything
  database : LineSign
  other : LineSign

abbrev pub begins : List ℕ → List ℕ → Bool
begins word s = starts_with nat_eq s word

abbrev pub names_database : List ℕ → Bool
names_database s = begins (kind_text user_db) s || (begins (kind_text system_db) s || (begins (kind_text file_db) s || begins (codes "service-db:") s))

abbrev pub sign_by : LineKind → List ℕ → LineSign
sign_by empty s = silent
sign_by bracket s = says TextKind.Keyfile
sign_by entry s = if names_database s then database else other

-- a line that is not UTF-8 says no more than a zero byte or a slash at its start does
abbrev pub sign_of : List ℕ → LineSign
sign_of line =
    if has_zero_byte line then says TextKind.Neither
    else if starts_with_slash line then says TextKind.Locks
    else if is_utf8 line then sign_by (line_kind (without_blanks line)) (without_blanks line)
    else other

-- by the first sign that says it; `true`: all before are silent
abbrev pub kind_from : Bool → List LineSign → TextKind
kind_from first [] = if first then TextKind.Empty else TextKind.Neither
kind_from first (silent ∷ more) = kind_from first more
kind_from first (says kind ∷ more) = kind
kind_from first (database ∷ more) = if first then TextKind.Profile else kind_from false more
kind_from first (other ∷ more) = kind_from false more

abbrev pub kind_number : TextKind → ℕ
kind_number TextKind.Keyfile = 0
kind_number TextKind.Locks = 1
kind_number TextKind.Profile = 2
kind_number TextKind.Empty = 3
kind_number TextKind.Neither = 4

-- ---- a word of a private part

abbrev pub sign_meant : Sign → LineSign
sign_meant Sign.Silent = silent
sign_meant (Sign.Says kind) = says kind
sign_meant Sign.Database = database
sign_meant Sign.Other = other

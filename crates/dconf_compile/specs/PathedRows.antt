-- The rows of a keyfile by their paths, and what they load.
use Rattle.std.specs.Prelude.{◌≡◌, ◌≤◌, ℕ, List, [], ◌∷◌, length, map, string_bytes, Bool, Result, Ok}
use Rattle.gv_model.specs.Tree.{Tree}
use Rattle.dconf_model.specs.Keyfiles.{Row, path_of}
use Rattle.dconf_model.specs.Lines.{LineFault, LineReading, longest_text}
use Rattle.dconf_model.specs.Paths.{is_key_path, is_short}
use Rattle.dconf_model.specs.Sources.{Assigned, Loaded, nothing_loaded, row_read, take_first}
use Rattle.dconf_model.specs.Values.{value_of_text}
use Rattle.dconf_path.specs.declared.path.KeyPath.{KeyPath}
use Rattle.dconf_path.specs.Paths.{key_text}
use Rattle.dconf_compile.specs.declared.load.PathedRow.{PathedRow}

-- a row by the path of its key
pub record AtPath : Type 0 where
  pub line : ℕ
  pub path : List ℕ
  pub text : List ℕ

abbrev pub at_path : List ℕ → Row → AtPath
at_path directory r = record { line = r.line; path = path_of directory r; text = r.text }

abbrev pub pathed_meant : PathedRow → AtPath
pathed_meant row = record { line = row.line; path = string_bytes row.path; text = row.text.now }

-- the path is that of a key unless it is too long, and the text is no longer than a keyfile
pub record IsPathed (row : PathedRow) : Type 0 where
  pub key : is_key_path (string_bytes row.path) ≡ is_short (string_bytes row.path)
  pub short : length row.text.now ≤ longest_text

-- what a row gives that is loaded
abbrev pub row_loaded : AtPath → LineReading Assigned
row_loaded r = row_read value_of_text r.path r.text

-- what they give, or the first line at fault
abbrev pub rows_given : Bool → List AtPath → Result Loaded LineFault
rows_given skip [] = Ok nothing_loaded
rows_given skip (r ∷ more) = take_first skip r.line r.path (row_loaded r) (rows_given skip more)

abbrev pub assigned_of : KeyPath × Tree → Assigned
assigned_of row = record { path = key_text row.0; value = row.1 }

abbrev pub values_of : List (KeyPath × Tree) → List Assigned
values_of rows = map assigned_of rows

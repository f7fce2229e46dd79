-- Keyfiles: groups of lines `key=value`, as in GLib's GKeyFile and the Desktop Entry Specification, "Basic format of the file".
-- And their text, as it is dumped: dconf(1), "dump" and "load". Which names are refused is this project's.
--
-- Spaces and tabs at the start of a line, and with carriage returns at its end, are dropped. A line that is empty then, or
-- starts with `#`, says nothing.
use Rattle.std.specs.Prelude.{◌≡◌, ◌≢◌, ◌≤◌, IsTrue, AllPairs, IsPermutation, ℕ, ◌+◌, ◌-◌, List, [], ◌∷◌, ◌++◌, length, take, drop, codes, Option, Some, None, Result, Ok, Err, Bool, if◌then◌else◌, nat_lt, nat_eq, ◌==◌, ◌&&◌, ◌||◌, not, map, filter_map}
use Rattle.std.specs.List.{before_first, after_first, list_any, last_or, starts_with, ends_with, suffix_len, AllByRecursion}
use Rattle.std.specs.List.Sorted.{IsSorted}
use Rattle.std.specs.Ordering.{nat_cmp, ordering_then}
use Rattle.std.specs.declared.cmp.Ordering.{Ordering}
use Rattle.std.specs.Cmp.Lexicographic.{slice_cmp}
use Rattle.std.specs.Str.{bytes_eq, is_utf8}
use Rattle.dconf_model.specs.Paths.{has_two_slashes, is_key_path, is_directory_path}
use Rattle.gv_model.specs.Texts.{has_zero_byte}
use Rattle.dconf_model.specs.Causes.{SettingsCause}
use Rattle.dconf_model.specs.Causes.SettingsCause.{bad_line, no_group, bad_group, bad_key_name}
use Rattle.dconf_model.specs.Lines.{LineReading, LineFault, read_lines, read_file, without_start, without_end, is_line_blank, is_space, longest_text}
use Rattle.dconf_model.specs.Lines.LineReading.{nothing, found, wrong}
use Rattle.dconf_model.specs.Order.{in_order}

pub record Row : Type 0 where
  pub line : ℕ
  pub group : List ℕ
  pub key : List ℕ
  pub text : List ℕ

-- ---- names

abbrev pub is_control : ℕ → Bool
is_control c = nat_lt c 32 || c == 127

-- neither a bracket nor a control character
abbrev pub is_plain : List ℕ → Bool
is_plain s = not (list_any (λ c. c == 91 || (c == 93 || is_control c)) s)

abbrev pub has_slash_end : List ℕ → Bool
has_slash_end s = starts_with nat_eq s (codes "/") || ends_with nat_eq s (codes "/")

-- `/`, or parts with a slash between
abbrev pub is_group : List ℕ → Bool
is_group s = bytes_eq s (codes "/") || (nat_lt 0 (length s) && not (has_slash_end s) && not (has_two_slashes s) && is_plain s)

abbrev pub is_key : List ℕ → Bool
is_key s = nat_lt 0 (length s) && not (list_any (λ c. c == 47) s) && is_plain s

-- ---- lines

abbrev pub without_blanks : List ℕ → List ℕ
without_blanks line = without_start is_space (without_end is_line_blank line)

abbrev pub begins_with : ℕ → List ℕ → Bool
begins_with c s = starts_with nat_eq s (c ∷ [])

abbrev pub ends_in : ℕ → List ℕ → Bool
ends_in c s = ends_with nat_eq s (c ∷ [])

abbrev pub is_equals : ℕ → Bool
is_equals c = c == 61

-- what a line is: it says nothing, it is in brackets, or else
pub data LineKind : Type 0 where
  empty : LineKind
  bracket : LineKind
  entry : LineKind

abbrev pub line_kind : List ℕ → LineKind
line_kind s = if length s == 0 || begins_with 35 s then empty else if begins_with 91 s then bracket else entry

-- the group that a line in brackets names
abbrev pub group_in : List ℕ → Option (List ℕ)
group_in s =
    let inside = take (length s - 2) (drop 1 s) in
    if ends_in 93 s && is_group inside then Some inside else None

abbrev pub group_named : LineKind → List ℕ → Option (List ℕ)
group_named bracket s = group_in s
group_named _ s = None

-- the group of the last line that names one
abbrev pub last_group : List (List ℕ) → Option (List ℕ)
last_group lines = last_or None (filter_map (λ line. group_named (line_kind (without_blanks line)) (without_blanks line)) lines)

-- the key comes before the first `=`, the value's text after it
abbrev pub row_of : ℕ → List ℕ → List ℕ → Row
row_of line group s = record {
  line = line;
  group = group;
  key = without_end is_space (before_first is_equals s);
  text = without_start is_space (after_first is_equals s);
}

abbrev pub row_if : Row → LineReading Row
row_if row = if is_key row.key then found row else wrong bad_key_name

abbrev pub entry_in : Option (List ℕ) → ℕ → List ℕ → LineReading Row
entry_in None line s = wrong no_group
entry_in (Some group) line s = row_if (row_of line group s)

abbrev pub or_bad_group : Option (List ℕ) → LineReading Row
or_bad_group (Some group) = nothing
or_bad_group None = wrong bad_group

abbrev pub line_read : LineKind → List (List ℕ) → List ℕ → LineReading Row
line_read empty earlier s = nothing
line_read bracket earlier s = or_bad_group (group_in s)
line_read entry earlier s =
    if list_any is_equals s && not (has_zero_byte s) then entry_in (last_group earlier) (length earlier + 1) s else wrong bad_line

-- the rows of a keyfile, or its first line at fault
abbrev pub rows_of : List ℕ → Result (List Row) LineFault
rows_of bytes = read_file (read_lines (λ earlier line. line_read (line_kind (without_blanks line)) earlier (without_blanks line))) bytes

-- a row's path below a directory; `/` for a keyfile by itself
abbrev pub path_of : List ℕ → Row → List ℕ
path_of directory row = directory ++ (if bytes_eq row.group (codes "/") then row.key else row.group ++ 47 ∷ row.key)

-- ---- what is dumped

-- a path and the text of its value
pub record Setting : Type 0 where
  pub path : List ℕ
  pub text : List ℕ

-- a row below a directory: its part, up to the last slash and without it, is empty for a key of the directory itself
pub record DumpRow : Type 0 where
  pub part : List ℕ
  pub key : List ℕ
  pub text : List ℕ

abbrev pub key_len : List ℕ → ℕ
key_len s = suffix_len (λ c. not (c == 47)) s

abbrev pub dump_row : List ℕ → Setting → DumpRow
dump_row directory x =
    let rest = drop (length directory) x.path in
    record { part = take (length rest - key_len rest - 1) rest; key = drop (length rest - key_len rest) rest; text = x.text }

abbrev pub group_name : List ℕ → List ℕ
group_name part = if length part == 0 then codes "/" else part

-- a key that is read again as it is: it has no `=`, doesn't start as a comment, and has no blank at either end
abbrev pub is_readable_key : List ℕ → Bool
is_readable_key s = is_key s && not (list_any is_equals s) && not (begins_with 35 s) && bytes_eq (without_start is_space (without_end is_space s)) s

-- why a row can't be read again
abbrev pub row_fault : DumpRow → Option SettingsCause
row_fault r =
    if not (is_group (group_name r.part)) then Some bad_group
    else if not (is_readable_key r.key) then Some bad_key_name
    else None

-- the number of the first row at fault, and why
pub record RowFault : Type 0 where
  pub row : ℕ
  pub cause : SettingsCause

abbrev pub or_later : ℕ → Option SettingsCause → Option RowFault → Option RowFault
or_later n (Some cause) later = Some (record { row = n; cause = cause })
or_later n None later = later

abbrev pub first_row_fault : ℕ → List DumpRow → Option RowFault
first_row_fault n [] = None
first_row_fault n (r ∷ more) = or_later n (row_fault r) (first_row_fault (n + 1) more)

-- by groups, the directory's own first; by keys in each
abbrev pub in_groups : List DumpRow → List DumpRow
in_groups rows = in_order (λ r. r.part) (in_order (λ r. r.key) rows)

abbrev pub heading : List ℕ → List ℕ
heading part = 91 ∷ (group_name part ++ 93 ∷ 10 ∷ [])

-- the heading of a group where it begins, with an empty line between groups
abbrev pub heading_after : Option (List ℕ) → List ℕ → List ℕ
heading_after None part = heading part
heading_after (Some before) part = if bytes_eq before part then [] else 10 ∷ heading part

abbrev pub text_after : Option (List ℕ) → List DumpRow → List ℕ
text_after before [] = []
text_after before (r ∷ more) = heading_after before r.part ++ (r.key ++ 61 ∷ (r.text ++ 10 ∷ text_after (Some r.part) more))

abbrev pub dumped_or : Option RowFault → List DumpRow → Result (List ℕ) RowFault
dumped_or (Some f) rows = Err f
dumped_or None rows = Ok (text_after None (in_groups rows))

-- the text of settings below a directory, or the first row that can't be read again
abbrev pub dumped : List ℕ → List Setting → Result (List ℕ) RowFault
dumped directory settings =
    let rows = map (dump_row directory) settings in
    dumped_or (first_row_fault 0 rows) rows

-- ---- what was dumped is read again

-- a text without a line feed, a zero byte, or blanks at either end
abbrev pub is_one_line : List ℕ → Bool
is_one_line s = not (list_any (λ c. c == 10 || c == 0) s) && bytes_eq (without_start is_line_blank (without_end is_line_blank s)) s

abbrev pub row_path : List ℕ → DumpRow → List ℕ
row_path directory r = directory ++ (if length r.part == 0 then r.key else r.part ++ 47 ∷ r.key)

-- the settings in the order of the dump
abbrev pub in_dump_order : List ℕ → List Setting → List Setting
in_dump_order directory settings =
    map (λ r. record { path = row_path directory r; text = r.text }) (in_groups (map (dump_row directory) settings))

abbrev pub setting_of : List ℕ → Row → Setting
setting_of directory row = record { path = path_of directory row; text = row.text }

-- a setting that may be dumped: its path is below the directory, and its text fits on a line
pub record MayBeDumped (directory : List ℕ) (x : Setting) : Type 0 where
  pub below : IsTrue (starts_with nat_eq x.path directory)
  pub path : IsTrue (is_key_path x.path)
  pub utf8 : IsTrue (is_utf8 x.path) × IsTrue (is_utf8 x.text)
  pub line : IsTrue (is_one_line x.text)

-- Their paths being distinct, they are read again below the same directory, in the order of the dump.
abbrev pub DumpReadsBack : Type 0
DumpReadsBack =
    (directory : List ℕ) (settings : List Setting) (text : List ℕ) →
    IsTrue (is_directory_path directory) → AllByRecursion (MayBeDumped directory) settings →
    AllPairs (λ x y. x.path ≢ y.path) settings → length text ≤ longest_text → dumped directory settings ≡ Ok text →
    (rows : List Row) × (rows_of text ≡ Ok rows) × (map (setting_of directory) rows ≡ in_dump_order directory settings)

-- The order of the dump has just these settings, each with its own path: so what is read again are the settings themselves.
abbrev pub DumpHasEachSetting : Type 0
DumpHasEachSetting =
    (directory : List ℕ) (settings : List Setting) →
    IsTrue (is_directory_path directory) → AllByRecursion (MayBeDumped directory) settings → IsPermutation settings (in_dump_order directory settings)

-- by the byte order of parts, so that the directory's own comes first, and in a part by that of keys
abbrev pub row_order : DumpRow → DumpRow → Ordering
row_order x y = ordering_then (slice_cmp nat_cmp x.part y.part) (slice_cmp nat_cmp x.key y.key)

-- So each group is one run of rows, and has one heading.
abbrev pub DumpIsInOrder : Type 0
DumpIsInOrder = (rows : List DumpRow) → IsSorted row_order (in_groups rows)

-- The lines of a text, and what is read of them: something at some lines, nothing at others, and the first fault.
--
-- A line ends at a line feed. What follows the last one is a line too, unless it is empty. POSIX, "Line", where only the
-- former is one.
use Rattle.std.specs.Prelude.{ℕ, ◌+◌, ◌-◌, List, [], ◌∷◌, ◌++◌, length, take, drop, Option, Some, None, Result, Ok, Err, nat_lt, ◌==◌, ◌||◌, not, if◌then◌else◌, Bool}
use Rattle.std.specs.List.{slice_split, prefix_len, suffix_len, count_by}
use Rattle.std.specs.Str.{is_utf8}
use Rattle.std.specs.Str.Lossy.{utf8_valid_len}
use Rattle.dconf_model.specs.Causes.{SettingsCause}
use Rattle.dconf_model.specs.Causes.SettingsCause.{too_big, not_utf8}

abbrev pub without_empty_end : List (List ℕ) → List (List ℕ)
without_empty_end [] = []
without_empty_end (l ∷ []) = if length l == 0 then [] else l ∷ []
without_empty_end (l ∷ m ∷ more) = l ∷ without_empty_end (m ∷ more)

abbrev pub lines_of : List ℕ → List (List ℕ)
lines_of text = without_empty_end (slice_split (λ c. c == 10) text)

-- without such bytes at the start, and at the end
abbrev pub without_start : (ℕ → Bool) → List ℕ → List ℕ
without_start f s = drop (prefix_len f s) s

abbrev pub without_end : (ℕ → Bool) → List ℕ → List ℕ
without_end f s = take (length s - suffix_len f s) s

-- a space or a tab; and with them a carriage return
abbrev pub is_space : ℕ → Bool
is_space c = c == 32 || c == 9

abbrev pub is_line_blank : ℕ → Bool
is_line_blank c = is_space c || c == 13

-- ---- what is read of lines

-- what a line gives: nothing, something, or a fault
pub data LineReading (X : Type 0) : Type 0 where
  nothing : LineReading X
  found : X → LineReading X
  wrong : SettingsCause → LineReading X

-- why a text is refused, and the line; the line is 0 where the text is too big
pub record LineFault : Type 0 where
  pub line : ℕ
  pub cause : SettingsCause

abbrev pub fault_at_line : {X : Type 0} → ℕ → SettingsCause → Result X LineFault
fault_at_line line cause = Err (record { line = line; cause = cause })

abbrev pub with_first_found : {X : Type 0} → X → Result (List X) LineFault → Result (List X) LineFault
with_first_found x (Ok xs) = Ok (x ∷ xs)
with_first_found x (Err f) = Err f

abbrev pub put_first : {X : Type 0} → ℕ → LineReading X → Result (List X) LineFault → Result (List X) LineFault
put_first line nothing rest = rest
put_first line (found x) rest = with_first_found x rest
put_first line (wrong cause) rest = fault_at_line line cause

-- What lines give, where each is read with the lines before it: what was found at them, in order, or the first
-- fault and its line.
abbrev pub read_after : {X : Type 0} → (List (List ℕ) → List ℕ → LineReading X) → List (List ℕ) → List (List ℕ) → Result (List X) LineFault
read_after read earlier [] = Ok []
read_after read earlier (l ∷ more) = put_first (length earlier + 1) (read earlier l) (read_after read (earlier ++ l ∷ []) more)

abbrev pub read_lines : {X : Type 0} → (List (List ℕ) → List ℕ → LineReading X) → List ℕ → Result (List X) LineFault
read_lines read text = read_after read [] (lines_of text)

-- ---- texts in files

-- how many bytes a text of settings has at most
abbrev pub longest_text : ℕ
longest_text = 16777216

-- the line of the first byte that is not UTF-8
abbrev pub bad_line : List ℕ → ℕ
bad_line bytes = count_by (λ c. c == 10) (take (utf8_valid_len bytes) bytes) + 1

-- why bytes are no text of settings: there are too many, which is looked at first, or they are no UTF-8
abbrev pub settings_text_fault : List ℕ → Option LineFault
settings_text_fault bytes =
    if nat_lt longest_text (length bytes) then Some (record { line = 0; cause = too_big })
    else if not (is_utf8 bytes) then Some (record { line = bad_line bytes; cause = not_utf8 })
    else None

abbrev pub unless_fault : {X : Type 0} → Option LineFault → Result X LineFault → Result X LineFault
unless_fault (Some f) read = Err f
unless_fault None read = read

-- what a file of lines gives
abbrev pub read_file : {X : Type 0} → (List ℕ → Result X LineFault) → List ℕ → Result X LineFault
read_file read bytes = unless_fault (settings_text_fault bytes) (read bytes)

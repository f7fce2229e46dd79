-- The paths of settings, and why a text is none.
--
-- A path starts with `/`, has no zero byte and no `//`, and has at most 65,535 bytes. A key's path doesn't end in
-- `/`; a directory's does, and `/` is a directory.
use Rattle.std.specs.Prelude.{◌≡◌, ℕ, Bool, false, List, [], ◌∷◌, ◌++◌, length, Option, Some, None, is_none, nat_le, ◌==◌, ◌&&◌, ◌||◌, not, eqb, if◌then◌else◌}
use Rattle.std.specs.Io.BufRead.{take_through}
use Rattle.std.specs.List.{starts_with, ends_with}
pub use Rattle.gv_model.specs.Texts.{has_zero_byte}

abbrev pub starts_with_slash : List ℕ → Bool
starts_with_slash text = starts_with eqb text (47 ∷ [])

unfoldable pub has_two_slashes : List ℕ → Bool
has_two_slashes (c ∷ d ∷ more) = (c == 47 && d == 47) || has_two_slashes (d ∷ more)
has_two_slashes _ = false

abbrev pub ends_with_slash : List ℕ → Bool
ends_with_slash text = ends_with eqb text (47 ∷ [])

abbrev pub is_short : List ℕ → Bool
is_short text = nat_le (length text) 65535

abbrev pub is_path : List ℕ → Bool
is_path text = starts_with_slash text && not (has_zero_byte text) && not (has_two_slashes text) && is_short text

abbrev pub is_key_path : List ℕ → Bool
is_key_path text = is_path text && not (ends_with_slash text)

abbrev pub is_directory_path : List ℕ → Bool
is_directory_path text = is_path text && ends_with_slash text

-- the first part of what follows a directory's path: up to and with the first `/`, or all of it where there is none
abbrev pub first_part : List ℕ → List ℕ
first_part rest = take_through 47 rest

-- ---- why a text is refused

pub data PathFault : Type 0 where
  not_absolute has_nul double_slash ends_in_slash no_end_slash too_long : PathFault

-- a fault, and whether the text has it
pub record Question : Type 0 where
  pub holds : Bool
  pub fault : PathFault

-- the fault of the first question that is answered yes
unfoldable pub first_path_fault : List Question → Option PathFault
first_path_fault [] = None
first_path_fault (q ∷ more) = if q.holds then Some q.fault else first_path_fault more

-- what is asked of every path, its end and its length left aside
abbrev pub questions_of_bytes : List ℕ → List Question
questions_of_bytes text =
    record { holds = not (starts_with_slash text); fault = not_absolute } ∷
    record { holds = has_zero_byte text; fault = has_nul } ∷
    record { holds = has_two_slashes text; fault = double_slash } ∷ []

abbrev pub question_of_length : List ℕ → Question
question_of_length text = record { holds = not (is_short text); fault = too_long }

-- the first fault of a text as a key's path
abbrev pub key_fault : List ℕ → Option PathFault
key_fault text = first_path_fault (questions_of_bytes text
    ++ record { holds = ends_with_slash text; fault = ends_in_slash } ∷ question_of_length text ∷ [])

-- the first fault of a text as a directory's path
abbrev pub directory_fault : List ℕ → Option PathFault
directory_fault text = first_path_fault (questions_of_bytes text
    ++ record { holds = not (ends_with_slash text); fault = no_end_slash } ∷ question_of_length text ∷ [])

-- ---- laws

abbrev pub KeysAreFaultless : Type 0
KeysAreFaultless = (text : List ℕ) → is_key_path text ≡ is_none (key_fault text)

abbrev pub DirectoriesAreFaultless : Type 0
DirectoriesAreFaultless = (text : List ℕ) → is_directory_path text ≡ is_none (directory_fault text)

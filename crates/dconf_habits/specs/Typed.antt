-- A negative number in place of a value.
use Rattle.std.specs.Prelude.{ℕ, List, ◌∷◌, ◌-◌, codes, Bool, false, not, ◌&&◌, ◌==◌, nat_lt, if◌then◌else◌, length, slice_get, Option, Some, None}
use Rattle.std.specs.List.{insert, list_any}
use Rattle.std.specs.Str.{bytes_eq}

abbrev pub is_digit : ℕ → Bool
is_digit c = nat_lt 47 c && nat_lt c 58

-- a minus sign, a digit and whatever follows
abbrev pub is_negative : List ℕ → Bool
is_negative (c ∷ (d ∷ rest)) = c == 45 && is_digit d
is_negative _ = false

abbrev pub is_negative_if_any : Option (List ℕ) → Bool
is_negative_if_any None = false
is_negative_if_any (Some word) = is_negative word

abbrev pub is_write_if_any : Option (List ℕ) → Bool
is_write_if_any None = false
is_write_if_any (Some word) = bytes_eq word (codes "write")

abbrev pub has_dashes : List (List ℕ) → Bool
has_dashes words = list_any (λ word. bytes_eq word (codes "--")) words

-- the program, `write`, an option or more perhaps, a key, and a negative number
abbrev pub ends_in_number : List (List ℕ) → Bool
ends_in_number words =
    nat_lt 3 (length words) && (is_write_if_any (slice_get words 1)
    && (is_negative_if_any (slice_get words (length words - 1)) && not (has_dashes words)))

-- `--` before the last word says that it is a value
abbrev pub with_dashes : List (List ℕ) → List (List ℕ)
with_dashes words = if ends_in_number words then insert words (length words - 1) (codes "--") else words

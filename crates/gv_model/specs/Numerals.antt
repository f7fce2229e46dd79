-- Integers in a text, and the runs of characters that are no integer.
-- GLib, "GVariant Text Format", Numbers.
use Rattle.std.specs.Prelude.{ℕ, ◌+◌, ◌*◌, Bool, List, [], ◌∷◌, length, Option, Some, None, Result, Ok, min, ◌^◌, ◌==◌, ◌&&◌, ◌||◌, not, if◌then◌else◌, codes}
use Rattle.gv_model.specs.TextFault.{Cause, Fault, fault}
use Rattle.gv_model.specs.Tokens.{Token, Placed}
use Rattle.gv_model.specs.Characters.{is_digit, is_word_byte, is_sign, is_e, digit_value, is_digit_of, after_prefix, begins, tail, has_no_bytes, same_text}
use Rattle.gv_model.specs.TextFault.Cause.{bad_token, double_text}
use Rattle.gv_model.specs.Tokens.Token.{integer_token}

abbrev pub without_sign : List ℕ → List ℕ
without_sign s = if begins is_sign s then tail s else s

-- `0x` or `0X`
abbrev pub begins_hex : List ℕ → Bool
begins_hex s = begins (λ c. c == 48) s && begins (λ c. c == 120 || c == 88) (tail s)

-- letters, digits and points, and a sign directly after an `e` where it isn't hexadecimal; c is the byte before
unfoldable pub run_after : Bool → ℕ → List ℕ → List ℕ
run_after hex c [] = []
run_after hex c (d ∷ ds) =
    if is_word_byte d || d == 46 || (is_sign d && is_e c && not hex) then d ∷ run_after hex d ds else []

abbrev pub run_of : ℕ → List ℕ → List ℕ
run_of c cs = c ∷ run_after (begins_hex (without_sign (c ∷ cs))) c cs

-- the number that digits stand for after one that comes before them
unfoldable pub number_after : ℕ → ℕ → List ℕ → ℕ
number_after base n [] = n
number_after base n (c ∷ cs) = number_after base (n * base + digit_value c) cs

-- the number that these digits stand for; 2^64 stands for every number from there on: no type has any of them
abbrev pub number_of_base : ℕ → List ℕ → Option ℕ
number_of_base base s = if not (has_no_bytes s) && has_no_bytes (after_prefix (is_digit_of base) s) then Some (min (number_after base 0 s) (2 ^ 64)) else None

-- the number that digits without a sign stand for
abbrev pub number_of : List ℕ → Option ℕ
number_of s =
    if begins_hex s then number_of_base 16 (tail (tail s))
    else if begins (λ c. c == 48) s then number_of_base 8 s
    else number_of_base 10 s

-- `e`, a sign or none, and digits
abbrev pub is_exponent : List ℕ → Bool
is_exponent s = begins is_e s && begins is_digit (without_sign (tail s)) && has_no_bytes (after_prefix is_digit (without_sign (tail s)))

-- after the first digits: a point and digits, an exponent, or both
abbrev pub is_fraction : Bool → List ℕ → Bool
is_fraction digits s =
    if begins (λ c. c == 46) s
    then (digits || begins is_digit (tail s)) && (has_no_bytes (after_prefix is_digit (tail s)) || is_exponent (after_prefix is_digit (tail s)))
    else digits && is_exponent s

abbrev pub is_double_word : List ℕ → Bool
is_double_word s = same_text s (codes "inf") || same_text s (codes "nan") || same_text s (codes "infinity")

abbrev pub is_double : List ℕ → Bool
is_double s = is_fraction (begins is_digit s) (after_prefix is_digit s) || is_double_word s

-- a token from a place on
abbrev pub placed : Token → ℕ → ℕ → Result Placed Fault
placed t at size = Ok (record { token = t; start = at; stop = at + size })

abbrev pub no_number : List ℕ → Cause
no_number s = if is_double (without_sign s) then double_text else bad_token

abbrev pub number_token : ℕ → List ℕ → Option ℕ → Result Placed Fault
number_token at s (Some n) = placed (integer_token (begins (λ c. c == 45) s) n) at (length s)
number_token at s None = fault (no_number s) at (at + length s)

abbrev pub number_at : ℕ → List ℕ → Result Placed Fault
number_at at s = number_token at s (number_of (without_sign s))

-- Strings and byte strings in a text, with their escapes.
-- GLib, "GVariant Text Format", Strings; Bytestrings.
use Rattle.std.specs.Prelude.{ℕ, zero, suc, ◌+◌, ◌-◌, Bool, List, [], ◌∷◌, ◌++◌, length, Option, Some, None, Result, Ok, Err, nat_lt, ◌==◌, ◌&&◌, ◌||◌, not, if◌then◌else◌, encode_utf8}
use Rattle.std.specs.Int.{is_in_range}
use Rattle.gv_model.specs.TextFault.{Cause, Fault, fault}
use Rattle.gv_model.specs.Tokens.{Token, Placed}
use Rattle.gv_model.specs.Characters.{is_digit_of, prefix_of}
use Rattle.gv_model.specs.Numerals.{number_after}
use Rattle.gv_model.specs.TextFault.Cause.{bad_token, unclosed, bad_escape}

-- a part of a string from a place on: what it stands for and how many bytes it takes, the closing quote, or a fault
pub data StringStep : Type 0 where
  denotes : List ℕ → ℕ → StringStep
  closes : StringStep
  faulty : Cause → ℕ → ℕ → StringStep

abbrev pub letter_meaning : ℕ → Option ℕ
letter_meaning c =
    if c == 97 then Some 7 else if c == 98 then Some 8 else if c == 102 then Some 12 else if c == 110 then Some 10
    else if c == 114 then Some 13 else if c == 116 then Some 9 else if c == 118 then Some 11 else None

-- at most n bytes of a prefix
unfoldable pub at_most : ℕ → List ℕ → List ℕ
at_most zero s = []
at_most (suc n) [] = []
at_most (suc n) (c ∷ cs) = c ∷ at_most n cs

abbrev pub is_scalar : ℕ → Bool
is_scalar n = not (n == 0) && (nat_lt n 55296 || is_in_range 57344 1114111 n)

-- an escape by a number of n digits, of which these are there
abbrev pub number_escape : ℕ → List ℕ → StringStep
number_escape n digits =
    if length digits == n && is_scalar (number_after 16 0 digits)
    then denotes (encode_utf8 (number_after 16 0 digits)) (2 + n)
    else faulty bad_escape 0 (2 + length digits)

abbrev pub letter_or_self : Option ℕ → ℕ → StringStep
letter_or_self (Some l) c = denotes (l ∷ []) 2
letter_or_self None c = if c == 10 then denotes [] 2 else if c == 0 then faulty bad_token 1 2 else denotes (c ∷ []) 2

-- from a backslash on, which c follows
abbrev pub escape : ℕ → List ℕ → StringStep
escape c cs =
    if c == 117 then number_escape 4 (prefix_of (is_digit_of 16) (at_most 4 cs))
    else if c == 85 then number_escape 8 (prefix_of (is_digit_of 16) (at_most 8 cs))
    else letter_or_self (letter_meaning c) c

abbrev pub octal_escape : List ℕ → StringStep
octal_escape digits =
    if nat_lt (number_after 8 0 digits) 256 then denotes (number_after 8 0 digits ∷ []) (1 + length digits) else faulty bad_escape 0 (1 + length digits)

abbrev pub byte_escape : ℕ → List ℕ → StringStep
byte_escape c cs = if is_digit_of 8 c then octal_escape (prefix_of (is_digit_of 8) (at_most 3 (c ∷ cs))) else letter_or_self (letter_meaning c) c

-- a backslash at the end of the text stands for nothing: the string isn't closed
abbrev pub escape_in : Bool → List ℕ → StringStep
escape_in of_bytes [] = denotes [] 1
escape_in of_bytes (c ∷ cs) = if of_bytes then byte_escape c cs else escape c cs

abbrev pub part : Bool → ℕ → ℕ → List ℕ → StringStep
part of_bytes quote c cs =
    if c == quote then closes else if c == 0 then faulty bad_token 0 1
    else if c == 92 then escape_in of_bytes cs else denotes (c ∷ []) 1

abbrev pub bytes_after : StringStep → ℕ
bytes_after (denotes s n) = n - 1
bytes_after _ = 0

abbrev pub with_prefix : List ℕ → Result (List ℕ × ℕ) Fault → Result (List ℕ × ℕ) Fault
with_prefix s (Ok rest) = Ok (s ++ rest.0, rest.1)
with_prefix s (Err e) = Err e

abbrev pub with_part : ℕ → StringStep → Result (List ℕ × ℕ) Fault → Result (List ℕ × ℕ) Fault
with_part at (denotes s n) rest = with_prefix s rest
with_part at closes rest = Ok ([], suc at)
with_part at (faulty cause from to) rest = fault cause (at + from) (at + to)

-- What a string has up to its closing quote, and where that ends, from a place in it on, of which some bytes
-- still belong to the part before. The string begins at a quote at `from`.
unfoldable pub string_from : Bool → ℕ → ℕ → ℕ → ℕ → List ℕ → Result (List ℕ × ℕ) Fault
string_from of_bytes quote from at skip [] = fault unclosed from (suc from)
string_from of_bytes quote from at (suc k) (c ∷ cs) = string_from of_bytes quote from (suc at) k cs
string_from of_bytes quote from at zero (c ∷ cs) =
    with_part at (part of_bytes quote c cs) (string_from of_bytes quote from (suc at) (bytes_after (part of_bytes quote c cs)) cs)

abbrev pub quoted_token : (List ℕ → Token) → ℕ → Result (List ℕ × ℕ) Fault → Result Placed Fault
quoted_token f at (Ok s) = Ok (record { token = f s.0; start = at; stop = s.1 })
quoted_token f at (Err e) = Err e

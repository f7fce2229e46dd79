-- What `lint` prints of a finding: FILE:LINE: TEXT, or an object of JSON in a line. docs/MANUAL.md, "lint [FILE]..".
use Rattle.std.specs.Prelude.{◌≡◌, ℕ, List, [], ◌∷◌, ◌++◌, ◌+◌, ◌/◌, ◌%◌, Bool, codes, decimal, flat_map, nat_lt, ◌==◌, ◌||◌, if◌then◌else◌}
use Rattle.std.specs.Str.{bytes_eq}
use Rattle.hex.specs.Hex.{encode_lower}
use Rattle.json.specs.Lex.{tokens}
use Rattle.json.specs.Print.{print}
use Rattle.json.specs.Token.{Token, begin_object, end_object, key, null, number, string}
use Rattle.dconf_texts.specs.Strings.{as_utf8}

-- what is said of it
abbrev pub whole_text : List ℕ → Bool → List ℕ → List ℕ
whole_text text has_nearest nearest = if has_nearest then text ++ (codes "; the nearest is " ++ nearest) else text

-- ---- for a reader

-- no control character is printed: it is `\` and its three octal digits
abbrev pub shown_byte : ℕ → List ℕ
shown_byte b =
    if nat_lt b 32 || (b == 127) then 92 ∷ (48 + b / 64) ∷ (48 + b / 8 % 8) ∷ (48 + b % 8) ∷ [] else b ∷ []

abbrev pub shown : List ℕ → List ℕ
shown bytes = flat_map shown_byte bytes

abbrev pub plain_line : List ℕ → ℕ → List ℕ → List ℕ
plain_line file n text = shown file ++ (58 ∷ (decimal n ++ (codes ": " ++ (shown text ++ 10 ∷ []))))

-- ---- for a program

abbrev pub kind_word : ℕ → List ℕ
kind_word k = if k == 0 then codes "no-key" else if k == 1 then codes "no-locked-key" else if k == 2 then codes "no-locked-directory" else
    if k == 3 then codes "type" else if k == 4 then codes "range" else if k == 5 then codes "no-value" else if k == 6 then codes "double" else
    if k == 7 then codes "set-twice" else if k == 8 then codes "not-set" else if k == 9 then codes "line" else if k == 10 then codes "unread" else
    if k == 11 then codes "no-source" else if k == 12 then codes "file" else if k == 13 then codes "name" else if k == 14 then codes "in-the-way" else
    if k == 15 then codes "profile" else if k == 16 then codes "no-database" else codes "unsound"

abbrev pub text_member : List ℕ → List ℕ → List Token
text_member name text = key name ∷ (string text ∷ [])

abbrev pub text_or_null : Bool → List ℕ → List Token
text_or_null has_any bytes = if has_any then string (as_utf8 bytes) ∷ [] else null ∷ []

-- the file's name in hexadecimal digits, if its string says something else, since it isn't UTF-8
abbrev pub bytes_member : List ℕ → List Token
bytes_member file = if bytes_eq (as_utf8 file) file then [] else text_member (codes "bytes") (encode_lower file)

abbrev pub head_tokens : ℕ → List ℕ → ℕ → List Token
head_tokens kind file n =
    begin_object ∷ (text_member (codes "file") (as_utf8 file) ++ (key (codes "line") ∷ number (decimal n) ∷ text_member (codes "kind") (kind_word kind)))

abbrev pub near_tokens : ℕ → List ℕ → ℕ → List ℕ → Bool → List ℕ → List Token
near_tokens kind file n text has_nearest nearest =
    ((head_tokens kind file n ++ text_member (codes "text") (as_utf8 text)) ++ key (codes "nearest") ∷ []) ++ text_or_null has_nearest nearest

abbrev pub object_tokens : ℕ → List ℕ → ℕ → List ℕ → Bool → List ℕ → List Token
object_tokens kind file n text has_nearest nearest = (near_tokens kind file n text has_nearest nearest ++ bytes_member file) ++ end_object ∷ []

-- a text of these tokens, and a line feed
abbrev pub json_line : List Token → List ℕ
json_line ts = print ts ++ 10 ∷ []

-- a reader of JSON finds the tokens
abbrev pub IsReadBack : List Token → Type 0
IsReadBack ts = tokens (print ts) ≡ ts

-- ---- either

abbrev pub printed : Bool → ℕ → List ℕ → ℕ → List ℕ → Bool → List ℕ → List ℕ
printed is_json kind file n text has_nearest nearest =
    if is_json then json_line (object_tokens kind file n (whole_text text has_nearest nearest) has_nearest nearest) else
    plain_line file n (whole_text text has_nearest nearest)

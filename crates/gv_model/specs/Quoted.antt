-- Strings and byte strings in quotes.
-- GLib, "GVariant Text Format": "Strings" and "Bytestrings". Which characters are escaped is this
-- project's rule.
use Rattle.std.specs.Prelude.{ℕ, ◌+◌, ◌/◌, ◌%◌, List, [], ◌∷◌, ◌++◌, Option, Some, None, ◌==◌, ◌&&◌, ◌||◌, nat_lt, nat_le, if◌then◌else◌, chars, encode_utf8, flat_map}
use Rattle.std.specs.List.{list_any}

-- a digit below 16 as a character, in lower case
abbrev pub digit : ℕ → ℕ
digit d = if nat_lt d 10 then 48 + d else 87 + d

-- the letter after the backslash, for seven characters: a b t n v f r
abbrev pub escape_letter : ℕ → Option ℕ
escape_letter c =
    if c == 7 then Some 97 else if c == 8 then Some 98 else if c == 9 then Some 116 else if c == 10 then Some 110
    else if c == 11 then Some 118 else if c == 12 then Some 102 else if c == 13 then Some 114 else None

-- a character that doesn't print as itself: by its letter, or else by its number
abbrev pub escaped : Option ℕ → List ℕ → List ℕ
escaped (Some l) digits = 92 ∷ l ∷ []
escaped None digits = 92 ∷ digits

abbrev pub four_hex : ℕ → List ℕ
four_hex c = 117 ∷ digit (c / 4096) ∷ digit (c / 256 % 16) ∷ digit (c / 16 % 16) ∷ digit (c % 16) ∷ []

abbrev pub three_octal : ℕ → List ℕ
three_octal c = digit (c / 64) ∷ digit (c / 8 % 8) ∷ digit (c % 8) ∷ []

-- the quote in use and the backslash have a backslash before them
abbrev pub plain : ℕ → ℕ → List ℕ → List ℕ
plain quote c itself = if c == quote || c == 92 then 92 ∷ itself else itself

-- a character of a string, in this quote
abbrev pub char_text : ℕ → ℕ → List ℕ
char_text quote c =
    if (nat_le 32 c && nat_le c 126) || nat_le 160 c then plain quote c (encode_utf8 c)
    else escaped (escape_letter c) (four_hex c)

-- a byte of a byte string
abbrev pub byte_text : ℕ → ℕ → List ℕ
byte_text quote c =
    if nat_le 32 c && nat_le c 126 then plain quote c (c ∷ [])
    else escaped (escape_letter c) (three_octal c)

-- the quote for a text: ' or, where the text has that, "
abbrev pub quote_for : List ℕ → ℕ
quote_for s = if list_any (λ c. c == 39) s then 34 else 39

abbrev pub between : ℕ → List ℕ → ℕ → List ℕ
between left s right = left ∷ (s ++ right ∷ [])

abbrev pub quoted : List ℕ → List ℕ
quoted s = between (quote_for s) (flat_map (char_text (quote_for s)) (chars s)) (quote_for s)

abbrev pub byte_string : List ℕ → List ℕ
byte_string s = 98 ∷ between (quote_for s) (flat_map (byte_text (quote_for s)) s) (quote_for s)

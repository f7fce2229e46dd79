-- Bytes as characters: which bytes are one, Table 3-7 of the Unicode Standard, by the kit's `bstr`.
use Rattle.std.specs.Prelude.{ℕ, zero, suc, List, [], ◌∷◌, Option, Some, None, length, drop, encode_utf8_all}
use Rattle.bstr.specs.Utf8.{decoded, or_replacement}

-- how many bytes are read at once: a character's, or one that is no part of any
abbrev pub read_at_once : Option ℕ → ℕ → ℕ
read_at_once None size = 1
read_at_once (Some c) size = size

-- the characters, with U+FFFD for each byte that is no part of one: as many steps are enough as there are bytes
unfoldable pub chars_from : ℕ → List ℕ → List ℕ
chars_from zero bs = []
chars_from (suc n) [] = []
chars_from (suc n) (b ∷ rest) =
    or_replacement (decoded (b ∷ rest)).char ∷ chars_from n (drop (read_at_once (decoded (b ∷ rest)).char (decoded (b ∷ rest)).size) (b ∷ rest))

abbrev pub chars_of : List ℕ → List ℕ
chars_of bs = chars_from (length bs) bs

-- as UTF-8
abbrev pub as_utf8 : List ℕ → List ℕ
as_utf8 bs = encode_utf8_all (chars_of bs)

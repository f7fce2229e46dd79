-- The text in bytes, if there is one.
use Rattle.std.specs.Prelude.{ℕ, Bool, List, Option, Some, None, if◌then◌else◌, nat_lt, ◌&&◌, option_and_then}
use Rattle.std.specs.Str.{is_utf8}
use Rattle.gv_model.specs.BasicValue.{text_in}

-- the bytes as a text, if they are UTF-8
abbrev pub utf8_of : List ℕ → Option (List ℕ)
utf8_of s = if is_utf8 s then Some s else None

-- the text before a zero byte that is the last and the only one, if it is UTF-8
abbrev pub utf8_in : List ℕ → Option (List ℕ)
utf8_in b = option_and_then utf8_of (text_in b)

-- ASCII, and not zero
abbrev pub is_ascii_char : ℕ → Bool
is_ascii_char b = nat_lt 0 b && nat_lt b 128

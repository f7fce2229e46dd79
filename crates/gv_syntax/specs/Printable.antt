-- Characters that stand for themselves in quotes.
use Rattle.std.specs.Prelude.{ℕ, Bool, nat_le, ◌==◌, ◌&&◌, ◌||◌, not}

-- the byte is a character that stands for itself in this quote
abbrev pub is_printable : ℕ → ℕ → Bool
is_printable quote c = nat_le 32 c && nat_le c 126 && not (c == quote || c == 92)

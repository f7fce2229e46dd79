-- Keys as schemas name them.
use Rattle.std.specs.Prelude.{ℕ, Bool, ◌||◌, ◌&&◌, ◌==◌, nat_lt}

-- a small letter, a digit or `-`
abbrev pub is_schema_byte : ℕ → Bool
is_schema_byte c = nat_lt 96 c && nat_lt c 123 || (nat_lt 47 c && nat_lt c 58 || c == 45)

-- Flags of numbers that were seen.
use Rattle.std.specs.Prelude.{ℕ, ◌%◌, ◌/◌, ◌≡◌, Bool, true, false, List, length, slice_index_or}

-- the number is of another part, or its flag is set
abbrev pub IsFlagged : List Bool → ℕ → ℕ → ℕ → Type 0
IsFlagged flags part parts n = n % parts ≡ part → slice_index_or flags (n / parts % length flags) false ≡ true

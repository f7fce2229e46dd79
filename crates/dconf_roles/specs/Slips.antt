-- Whether a name is a slip of the pen away from another one. docs/MANUAL.md, "lint [FILE]..".
use Rattle.std.specs.Prelude.{ℕ, List, Bool, ◌&&◌, ◌||◌, drop, nat_eq, take}
use Rattle.std.specs.List.{common_prefix_len}
use Rattle.std.specs.Str.{bytes_eq}

-- the first two letters have changed places
abbrev pub is_swapped : List ℕ → List ℕ → Bool
is_swapped one other =
    bytes_eq (take 1 one) (take 1 (drop 1 other)) && (bytes_eq (take 1 (drop 1 one)) (take 1 other) && bytes_eq (drop 2 one) (drop 2 other))

-- the first letter is another one, or is put in, or left out, or has changed places with the next
abbrev pub begins_with_a_slip : List ℕ → List ℕ → Bool
begins_with_a_slip one other =
    bytes_eq (drop 1 one) (drop 1 other) || (bytes_eq one (drop 1 other) || (bytes_eq (drop 1 one) other || is_swapped one other))

-- behind what both begin with
abbrev pub is_slip : List ℕ → List ℕ → Bool
is_slip one other = begins_with_a_slip (drop (common_prefix_len nat_eq one other) one) (drop (common_prefix_len nat_eq one other) other)

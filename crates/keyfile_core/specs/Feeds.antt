-- The lines of a text, as pieces between line feeds.
use Rattle.std.specs.Prelude.{ℕ, ◌==◌, Bool, List, [], Option, Some, None}
use Rattle.std.specs.List.{slice_split}

abbrev pub is_feed : ℕ → Bool
is_feed c = c == 10

-- the lines that follow a line feed, if there was one
abbrev pub lines_in : Option (List ℕ) → List (List ℕ)
lines_in None = []
lines_in (Some text) = slice_split is_feed text

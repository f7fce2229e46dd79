-- The text of a variant's type.
use Rattle.std.specs.Prelude.{ℕ, List, Bool, codes}
use Rattle.std.specs.Str.{bytes_eq}

abbrev pub is_variant : List ℕ → Bool
is_variant text = bytes_eq text (codes "v")

-- What the bytes of a variant hold.
use Rattle.std.specs.Prelude.{ℕ, List, Option, option_map, option_and_then}
use Rattle.gv_model.specs.TypeText.{type_of_text}
use Rattle.gv_model.specs.Variants.{at_last_zero}
use Rattle.gv_model.specs.Parts.{Part}

-- the bytes at the type that their text spells, if it spells one
abbrev pub at_type_text : List ℕ × List ℕ → Option Part
at_type_text p = option_map (λ t. (t, p.0)) (type_of_text p.1)

-- the bytes before the last zero byte, at the type whose text comes after it
abbrev pub held : List ℕ → Option Part
held b = option_and_then at_type_text (at_last_zero b)

-- Children that are put where C can take them.
use Rattle.std.specs.Prelude.{◌≡◌, ℕ, List, drop, length, map, take}
use Rattle.gv_model.specs.Parts.{Part}
use Rattle.gv_model.specs.TypeText.{type_at}
use Rattle.dconfdb_values.specs.declared.listing.DconfdbChild.{DconfdbChild}

-- the index of its whole, how many of its own children are known to be in order, its type and its bytes
abbrev pub told_child : DconfdbChild → ℕ × (ℕ × Part)
told_child c = (c.origin, (c.passed, (type_at c.type_text.now, c.value.now)))

-- these, in order, each with that index and none of its own children passed; as many as there is room for, and
-- what is behind them stays
pub record ArePut (origin : ℕ) (ps : List Part) (old new : List DconfdbChild) : Type 0 where
  pub put : map told_child (take (length ps) new) ≡ take (length old) (map (λ p. (origin, (0, p))) ps)
  pub rest : drop (length ps) new ≡ drop (length ps) old

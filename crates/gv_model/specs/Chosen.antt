-- The type that is chosen for a syntax tree: the least that it admits.
use Rattle.std.specs.Prelude.{◌≤◌}
use Rattle.gv_model.specs.Ty.{Ty, nesting}
use Rattle.gv_model.specs.Syntax.{Syntax}
use Rattle.gv_model.specs.Admits.{Admits}
use Rattle.gv_model.specs.Order.{Below}

-- a type within the depth limit that a syntax tree admits
pub record MayHave (x : Syntax) (t : Ty) : Type 0 where
  pub admits : Admits x t
  pub shallow : nesting t ≤ 128

-- the least of them
pub record Chosen (x : Syntax) (t : Ty) : Type 0 where
  pub among : MayHave x t
  pub least : (u : Ty) → MayHave x u → Below t u

-- What comes of the choice
pub data Choice : Type 0 where
  is : Ty → Choice
  no_common_type : Choice
  ambiguous : Choice

abbrev pub Chooses : Syntax → Choice → Type 0
Chooses x (is t) = Chosen x t
Chooses x no_common_type = (t : Ty) → MayHave x t → ⊥
Chooses x ambiguous = ((t : Ty) × MayHave x t) × ((t : Ty) → Chosen x t → ⊥)

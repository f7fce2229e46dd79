-- What the text of a value is read as: the law of printed text.
use Rattle.std.specs.Prelude.{◌≡◌, ◌≤◌, ◌↔◌, true, false, Result, Ok}
use Rattle.gv_model.specs.Ty.{Ty}
use Rattle.gv_model.specs.TypeText.{IsWithinLimits}
use Rattle.gv_model.specs.Tree.{Tree, depth}
use Rattle.gv_model.specs.Typed.{HasType}
use Rattle.gv_model.specs.Printed.{printed, holds_double}
use Rattle.gv_model.specs.Syntax.{Syntax}
use Rattle.gv_model.specs.Parsing.{Parses}
use Rattle.gv_model.specs.Chosen.{Choice, Chosen}
use Rattle.gv_model.specs.Chosen.Choice.{is}
use Rattle.gv_model.specs.Literals.{ValueFault}
use Rattle.gv_model.specs.TextValues.{HasValue, HasChoice}

-- The annotated text of v reads back as v at type t. It parses; that it has no other syntax tree
-- and no fault is `HasOneOutcome`. The least type that the syntax admits is t. Of the choice of a
-- text's own type comes t and nothing else, so each `<..>` in the text has a type, too. The value
-- at t is v, and there is no other and no fault.
pub record ReadsBack (t : Ty) (v : Tree) : Type 0 where
  pub syntax : Syntax
  pub parses : Parses (printed v true) (Ok syntax)
  pub chosen : Chosen syntax t
  pub choice : (c : Choice) → HasChoice syntax c ↔ (c ≡ is t)
  pub value : (r : Result Tree ValueFault) → HasValue syntax t r ↔ (r ≡ Ok v)

-- A value reads back whose type is within the limits, that holds no double and is at most 127 deep.
-- One that is 128 deep may have a text that is too deep: a word or an `@` type is a level of its
-- own.
abbrev pub PrintedReadsBack : Type 0
PrintedReadsBack = (t : Ty) (v : Tree) → HasType v t → IsWithinLimits t → holds_double v ≡ false → depth v ≤ 127 → ReadsBack t v

-- What a text is read as: the value that it has by its own type, or its first fault.
use Rattle.std.specs.Prelude.{ℕ, List, Result, Err}
use Rattle.gv_model.specs.Ty.{Ty}
use Rattle.gv_model.specs.Tree.{Tree}
use Rattle.gv_model.specs.Syntax.{Syntax}
use Rattle.gv_model.specs.Parsing.{HasFault, IsTree}
use Rattle.gv_model.specs.Chosen.Choice.{is}
use Rattle.gv_model.specs.Literals.{ValueFault}
use Rattle.gv_model.specs.TextValues.{HasChoice, HasValue}
use Rattle.gv_syntax.specs.ModelTokens.{fault_at_span}
use Rattle.gv_infer.specs.Typings.{choice_of}
use Rattle.gv_infer.specs.ValueFaults.{fault_of}
use Rattle.refused.specs.declared.Refused.{Refused}
use Rattle.refused.specs.Faults.{OfFault}
use Rattle.gv_infer.specs.declared.fault.TypingFlaw.{TypingFlaw}
use Rattle.gv_infer.specs.declared.fault.ReadFlaw.{ReadFlaw}
use Rattle.gv_infer.specs.declared.fault.ReadFlaw.TheVariants.{Text, Typing, Value}

-- the text's tree, the type that is chosen for that, and what it is at this type
pub record Reads (text : List ℕ) (r : Result Tree ValueFault) : Type 0 where
  pub syntax : Syntax
  pub tree : IsTree text syntax
  pub type : Ty
  pub chosen : HasChoice syntax (is type)
  pub value : HasValue syntax type r

-- the text's tree, which has no type of its own
pub record HasTypingFault (text : List ℕ) (f : TypingFlaw) : Type 0 where
  pub syntax : Syntax
  pub tree : IsTree text syntax
  pub chosen : HasChoice syntax (choice_of f)

-- the first fault of a text: of its tokens and grammar, of its type, or of its value
abbrev pub IsReadFlaw : List ℕ → ReadFlaw → Type 0
IsReadFlaw text (Text f) = HasFault text (fault_at_span f.cause f.span)
IsReadFlaw text (Typing f) = HasTypingFault text f
IsReadFlaw text (Value f) = Reads text (Err (fault_of f))

abbrev pub IsReadFault : List ℕ → Refused ReadFlaw → Type 0
IsReadFault text fault = OfFault (IsReadFlaw text) fault

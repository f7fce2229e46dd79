-- What the choice of a text's type comes to.
use Rattle.std.specs.Prelude.{◌≡◌, List}
use Rattle.gv_model.specs.Syntax.{Syntax}
use Rattle.gv_model.specs.Chosen.{Choice}
use Rattle.gv_model.specs.Chosen.Choice.{no_common_type, ambiguous}
use Rattle.gv_model.specs.LeastTypes.{choice}
use Rattle.gv_model.specs.TextValues.{first_choice, HasChoice}
use Rattle.refused.specs.declared.Refused.{Refused}
use Rattle.refused.specs.Faults.{OfFault}
use Rattle.gv_infer.specs.declared.fault.TypingFlaw.{TypingFlaw}
use Rattle.gv_infer.specs.declared.fault.TypingFlaw.TheVariants.{NoCommonType, Ambiguous}

-- the choice of no type that it is
abbrev pub choice_of : TypingFlaw → Choice
choice_of NoCommonType = no_common_type
choice_of Ambiguous = ambiguous

-- why a text has no type; running out of memory is never the text's fault
abbrev pub IsTypingFault : Syntax → Refused TypingFlaw → Type 0
IsTypingFault x fault = OfFault (λ f. HasChoice x (choice_of f)) fault

-- why a choice is of no type
abbrev pub IsChoiceFault : Choice → Refused TypingFlaw → Type 0
IsChoiceFault c fault = OfFault (λ f. c ≡ choice_of f) fault

-- each of these has a type
abbrev pub AreTyped : List Syntax → Type 0
AreTyped xs = (last : Choice) → first_choice choice xs last ≡ last

-- why the first of these that has no type has none
abbrev pub IsFirstChoiceFault : List Syntax → Refused TypingFlaw → Type 0
IsFirstChoiceFault xs fault = (last : Choice) → IsChoiceFault (first_choice choice xs last) fault

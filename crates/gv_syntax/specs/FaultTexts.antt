-- How a fault of a text is printed: as the model's fault that it is.
use Rattle.std.specs.Prelude.{ℕ, List}
use Rattle.gv_model.specs.FaultTexts.{text_fault_text as fault_text}
use Rattle.gv_syntax.specs.ModelTokens.{fault_at_span}
use Rattle.gv_syntax.specs.declared.fault.TextFlaw.{TextFlaw}

abbrev pub text_fault_text : TextFlaw → List ℕ
text_fault_text flaw = fault_text (fault_at_span flaw.cause flaw.span)

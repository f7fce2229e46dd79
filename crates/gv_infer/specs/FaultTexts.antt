-- How faults are printed: as the model's fault that each one is.
use Rattle.std.specs.Prelude.{ℕ, List}
use Rattle.gv_model.specs.FaultTexts.{value_fault_text as fault_text}
use Rattle.gv_syntax.specs.FaultTexts.{text_fault_text}
use Rattle.gv_infer.specs.ValueFaults.{fault_of, value_flaw}
use Rattle.gv_infer.specs.declared.fault.TypingFlaw.{TypingFlaw}
use Rattle.gv_infer.specs.declared.fault.ValueFlaw.{ValueFlaw}
use Rattle.gv_infer.specs.declared.fault.ReadFlaw.{ReadFlaw}
use Rattle.gv_infer.specs.declared.fault.ReadFlaw.TheVariants.{Text, Typing, Value}

abbrev pub value_fault_text : ValueFlaw → List ℕ
value_fault_text flaw = fault_text (fault_of flaw)

abbrev pub typing_fault_text : TypingFlaw → List ℕ
typing_fault_text flaw = value_fault_text (value_flaw flaw)

abbrev pub read_fault_text : ReadFlaw → List ℕ
read_fault_text (Text flaw) = text_fault_text flaw
read_fault_text (Typing flaw) = typing_fault_text flaw
read_fault_text (Value flaw) = value_fault_text flaw

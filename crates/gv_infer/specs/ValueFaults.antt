-- Which fault of the model a fault of a value is.
use Rattle.gv_model.specs.Literals.{ValueFault as TheFault}
use Rattle.gv_model.specs.Literals.ValueFault.{no_common, not_clear, out_of_range, bad_object_path, bad_signature, double_text, too_deep}
use Rattle.refused.specs.declared.Refused.{Refused}
use Rattle.refused.specs.Faults.{OfFault}
use Rattle.gv_infer.specs.declared.fault.TypingFlaw.{TypingFlaw}
use Rattle.gv_infer.specs.declared.fault.TypingFlaw.TheVariants as typings
use Rattle.gv_infer.specs.declared.fault.ValueFlaw.{ValueFlaw}
use Rattle.gv_infer.specs.declared.fault.ValueFlaw.TheVariants.{NoCommonType, Ambiguous, OutOfRange, BadObjectPath, BadSignature, DoubleText, TooDeep}

abbrev pub fault_of : ValueFlaw → TheFault
fault_of NoCommonType = no_common
fault_of Ambiguous = not_clear
fault_of OutOfRange = out_of_range
fault_of BadObjectPath = bad_object_path
fault_of BadSignature = bad_signature
fault_of DoubleText = double_text
fault_of TooDeep = too_deep

-- what holds of the syntax's fault; running out of memory is never that
abbrev pub FaultIs : (TheFault → Type 0) → Refused ValueFlaw → Type 0
FaultIs P e = OfFault (λ f. P (fault_of f)) e

-- a fault of typing, where a value is wanted
abbrev pub value_flaw : TypingFlaw → ValueFlaw
value_flaw typings.NoCommonType = NoCommonType
value_flaw typings.Ambiguous = Ambiguous

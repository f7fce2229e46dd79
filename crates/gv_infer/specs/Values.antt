-- Why a syntax tree has no value at a type.
use Rattle.std.specs.Prelude.{Err}
use Rattle.gv_model.specs.Ty.{Ty}
use Rattle.gv_model.specs.Syntax.{Syntax}
use Rattle.gv_model.specs.TextValues.{HasValue}
use Rattle.refused.specs.declared.Refused.{Refused}
use Rattle.gv_infer.specs.ValueFaults.{FaultIs}
use Rattle.gv_infer.specs.declared.fault.ValueFlaw.{ValueFlaw}

abbrev pub IsValueFault : Syntax → Ty → Refused ValueFlaw → Type 0
IsValueFault x t e = FaultIs (λ f. HasValue x t (Err f)) e

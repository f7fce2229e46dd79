-- Which fault of the model a fault of a type text is.
use Rattle.std.specs.Prelude.{ℕ}
use Rattle.gv_model.specs.TypeFault.{Fault}
use Rattle.gv_model.specs.TypeFault.Fault.{too_long, empty, bad_char, key_not_basic, too_deep, unclosed, trailing}
use Rattle.gv_types.specs.declared.fault.TypeFault.{TypeFault}
use Rattle.gv_types.specs.declared.fault.TypeFault.TheVariants.{TooLong, Empty, BadChar, KeyNotBasic, TooDeep, Unclosed, Trailing}
use Rattle.gv_types.specs.declared.grammar.Halt.{Halt}
use Rattle.gv_types.specs.declared.grammar.Halt.TheVariants as halts

abbrev pub type_fault_of : TypeFault → Fault
type_fault_of TooLong = too_long
type_fault_of Empty = empty
type_fault_of (BadChar at) = bad_char at
type_fault_of (KeyNotBasic at) = key_not_basic at
type_fault_of (TooDeep at) = too_deep at
type_fault_of (Unclosed at) = unclosed at
type_fault_of (Trailing at) = trailing at

-- what reading a type stops for, at an index
abbrev pub halt_fault : Halt → ℕ → Fault
halt_fault halts.Unclosed i = unclosed i
halt_fault halts.BadChar i = bad_char i
halt_fault halts.KeyNotBasic i = key_not_basic i
halt_fault halts.TooDeep i = too_deep i

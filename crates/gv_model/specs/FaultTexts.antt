-- How faults are printed: those of types, of texts and of values. The name comes first, and then the place, where there is one.
-- The names and their form are this project's.
use Rattle.std.specs.Prelude.{ℕ, List, ◌++◌, codes, decimal}
use Rattle.gv_model.specs.TypeFault.{Fault as TypeFault}
use Rattle.gv_model.specs.TypeFault.Fault.{too_long, empty, bad_char, key_not_basic, too_deep as type_too_deep, unclosed as type_unclosed, trailing}
use Rattle.gv_model.specs.TextFault.{Fault as TextFault, Cause}
use Rattle.gv_model.specs.TextFault.Cause.{bad_token, unclosed, bad_escape, double_text, unexpected, too_deep}
use Rattle.gv_model.specs.Literals.{ValueFault}
use Rattle.gv_model.specs.Literals.ValueFault.{no_common, not_clear, out_of_range, bad_object_path, bad_signature, double_text as double_value, too_deep as value_too_deep}

-- ---- a type's text: the index of the byte at fault

abbrev pub type_fault_text : TypeFault → List ℕ
type_fault_text too_long = codes "TooLong"
type_fault_text empty = codes "Empty at 0"
type_fault_text (bad_char at) = codes "BadChar at " ++ decimal at
type_fault_text (key_not_basic at) = codes "KeyNotBasic at " ++ decimal at
type_fault_text (type_too_deep at) = codes "TooDeep at " ++ decimal at
type_fault_text (type_unclosed at) = codes "Unclosed at " ++ decimal at
type_fault_text (trailing at) = codes "Trailing at " ++ decimal at

-- ---- a value's text: the bytes at fault

abbrev pub text_cause_text : Cause → List ℕ
text_cause_text bad_token = codes "BadToken"
text_cause_text unclosed = codes "Unclosed"
text_cause_text bad_escape = codes "BadEscape"
text_cause_text double_text = codes "DoubleText"
text_cause_text unexpected = codes "Unexpected"
text_cause_text too_deep = codes "TooDeep"

abbrev pub text_fault_text : TextFault → List ℕ
text_fault_text f = text_cause_text f.cause ++ (codes " at " ++ (decimal f.start ++ (codes ".." ++ decimal f.stop)))

-- ---- a text's type, and its value at a type

abbrev pub value_fault_text : ValueFault → List ℕ
value_fault_text no_common = codes "NoCommonType"
value_fault_text not_clear = codes "Ambiguous"
value_fault_text out_of_range = codes "OutOfRange"
value_fault_text bad_object_path = codes "BadObjectPath"
value_fault_text bad_signature = codes "BadSignature"
value_fault_text double_value = codes "DoubleText"
value_fault_text value_too_deep = codes "TooDeep"

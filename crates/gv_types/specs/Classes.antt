-- What the first letter of a type says.
use Rattle.std.specs.Prelude.{◌≡◌, ◌⊎◌, Bool, true, false, Option, Some, None}
use Rattle.gv_model.specs.Ty.{Ty, Basic}
use Rattle.gv_model.specs.Ty.Ty.{basic, variant, array, maybe, tuple, entry}
use Rattle.gv_model.specs.Ty.Basic.{boolean, byte, int16, uint16, int32, uint32, int64, uint64, handle, double, string, path, signature}
use Rattle.gv_model.specs.TypeText.{TypeMark}
use Rattle.gv_model.specs.TypeText.TypeMark.{letter, of_variant, of_array, of_maybe, open_tuple, open_entry}
use Rattle.gv_types.specs.declared.class.BasicType.{BasicType}
use Rattle.gv_types.specs.declared.class.BasicType.TheVariants as basics
use Rattle.gv_types.specs.declared.class.Class.{Class}
use Rattle.gv_types.specs.declared.class.Class.TheVariants as classes

-- a basic type as callers see it
abbrev pub basic_type : Basic → BasicType
basic_type boolean = basics.Boolean
basic_type byte = basics.Byte
basic_type int16 = basics.Int16
basic_type uint16 = basics.Uint16
basic_type int32 = basics.Int32
basic_type uint32 = basics.Uint32
basic_type int64 = basics.Int64
basic_type uint64 = basics.Uint64
basic_type handle = basics.Handle
basic_type double = basics.Double
basic_type string = basics.Text
basic_type path = basics.ObjectPath
basic_type signature = basics.Signature

abbrev pub basic_of : BasicType → Basic
basic_of basics.Boolean = boolean
basic_of basics.Byte = byte
basic_of basics.Int16 = int16
basic_of basics.Uint16 = uint16
basic_of basics.Int32 = int32
basic_of basics.Uint32 = uint32
basic_of basics.Int64 = int64
basic_of basics.Uint64 = uint64
basic_of basics.Handle = handle
basic_of basics.Double = double
basic_of basics.Text = string
basic_of basics.ObjectPath = path
basic_of basics.Signature = signature

-- a type's class: a basic type, or a kind of container
abbrev pub class_of : Ty → Class
class_of (basic k) = classes.Basic (basic_type k)
class_of variant = classes.Variant
class_of (array t) = classes.Array
class_of (maybe t) = classes.Maybe
class_of (tuple ts) = classes.Tuple
class_of (entry k t) = classes.Entry

-- the class of a type whose text lies between brackets
abbrev pub AreBracketed : Class → Type 0
AreBracketed c = (c ≡ classes.Tuple) ⊎ (c ≡ classes.Entry)

-- the class of the types that begin with a byte
-- the basic type, where the class is one's
abbrev pub basic_in : Option Class → Option BasicType
basic_in (Some (classes.Basic b)) = Some b
basic_in _ = None

abbrev pub class_of_mark : TypeMark → Option Class
class_of_mark (letter k) = Some (classes.Basic (basic_type k))
class_of_mark of_variant = Some classes.Variant
class_of_mark of_array = Some classes.Array
class_of_mark of_maybe = Some classes.Maybe
class_of_mark open_tuple = Some classes.Tuple
class_of_mark open_entry = Some classes.Entry
class_of_mark _ = None

-- whether a byte is the text of a type
abbrev pub is_single_mark : TypeMark → Bool
is_single_mark (letter k) = true
is_single_mark of_variant = true
is_single_mark _ = false

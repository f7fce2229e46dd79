-- The tree that a basic value stands for.
use Rattle.std.specs.Prelude.{◌≡◌, ℕ, List, [], Option, Some, None, string_bytes}
use Rattle.std.specs.Int.{cast_unsigned, w16, w32, w64}
use Rattle.gv_model.specs.Ty.Basic.{boolean, byte, int16, uint16, int32, uint32, int64, uint64, handle, double, string, path, signature}
use Rattle.gv_model.specs.Tree.{Tree}
use Rattle.gv_model.specs.Tree.Tree.{number, text}
use Rattle.gv_model.specs.BasicValue.{number_in}
use Rattle.gv_model.specs.Typed.{IsNumber}
use Rattle.gv_tree.specs.declared.basic.Basic.{Basic}
use Rattle.gv_tree.specs.declared.basic.Basic.TheVariants as basics
pub use Rattle.gv_model.specs.BasicValue.{truth_bits}

abbrev pub basic_tree : Basic → Tree
basic_tree (basics.Bool b) = number boolean (truth_bits b)
basic_tree (basics.Byte n) = number byte n
basic_tree (basics.Int16 n) = number int16 (cast_unsigned w16 n)
basic_tree (basics.Uint16 n) = number uint16 n
basic_tree (basics.Int32 n) = number int32 (cast_unsigned w32 n)
basic_tree (basics.Uint32 n) = number uint32 n
basic_tree (basics.Int64 n) = number int64 (cast_unsigned w64 n)
basic_tree (basics.Uint64 n) = number uint64 n
basic_tree (basics.HandleNo n) = number handle (cast_unsigned w32 n)
basic_tree (basics.DoubleBits b) = number double (number_in b)
basic_tree (basics.Text s) = text string (string_bytes s)
basic_tree (basics.ObjectPath s) = text path (string_bytes s)
basic_tree (basics.Signature s) = text signature (string_bytes s)

-- a number's bits, which its type has
abbrev pub BitsAre : Option ℕ → Tree → Type 0
BitsAre (Some n) (number k m) = (n ≡ m) × IsNumber k m
BitsAre None (text k s) = Unit {0}
BitsAre _ _ = ⊥

-- a text; a number has none
abbrev pub TextIs : List ℕ → Tree → Type 0
TextIs s (text k t) = s ≡ t
TextIs s (number k n) = s ≡ []
TextIs _ _ = ⊥

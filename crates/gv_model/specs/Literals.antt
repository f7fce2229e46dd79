-- What literals are at a basic type.
use Rattle.std.specs.Prelude.{ℕ, ◌-◌, ◌^◌, Bool, true, false, List, [], ◌∷◌, Option, Some, None, Result, Ok, Err, nat_le, nat_lt, ◌==◌, if◌then◌else◌}
use Rattle.gv_model.specs.Ty.{Basic}
use Rattle.gv_model.specs.Ty.Basic.{byte, int16, uint16, int32, uint32, int64, handle, double, path, signature}
use Rattle.gv_model.specs.Tree.{Tree, Trees}
use Rattle.gv_model.specs.Tree.Tree.{number, text}
use Rattle.gv_model.specs.Tree.Trees.{none as no_tree, first as first_tree}
use Rattle.gv_model.specs.Texts.{is_object_path, is_signature}

pub data ValueFault : Type 0 where
  no_common : ValueFault
  not_clear : ValueFault
  out_of_range : ValueFault
  bad_object_path : ValueFault
  bad_signature : ValueFault
  double_text : ValueFault
  too_deep : ValueFault

-- Literals

-- how many bits a number type has, and whether it is signed
abbrev pub signed_bits : Basic → Option ℕ
signed_bits int16 = Some 16
signed_bits int32 = Some 32
signed_bits handle = Some 32
signed_bits int64 = Some 64
signed_bits _ = None

abbrev pub unsigned_bits : Basic → ℕ
unsigned_bits byte = 8
unsigned_bits uint16 = 16
unsigned_bits uint32 = 32
unsigned_bits _ = 64

-- two's complement
abbrev pub number_bits : Option ℕ → ℕ → Bool → ℕ → Option ℕ
number_bits (Some bits) unsigned true n = if n == 0 then Some 0 else if nat_le n (2 ^ (bits - 1)) then Some (2 ^ bits - n) else None
number_bits (Some bits) unsigned false n = if nat_lt n (2 ^ (bits - 1)) then Some n else None
number_bits None unsigned true n = None
number_bits None unsigned false n = if nat_lt n (2 ^ unsigned) then Some n else None

abbrev pub or_out_of_range : Basic → Option ℕ → Result Tree ValueFault
or_out_of_range k (Some n) = Ok (number k n)
or_out_of_range k None = Err out_of_range

abbrev pub integer_at : Basic → Bool → ℕ → Result Tree ValueFault
integer_at double negative n = Err double_text
integer_at k negative n = or_out_of_range k (number_bits (signed_bits k) (unsigned_bits k) negative n)

abbrev pub text_at : Basic → List ℕ → Result Tree ValueFault
text_at path s = if is_object_path s then Ok (text path s) else Err bad_object_path
text_at signature s = if is_signature s then Ok (text signature s) else Err bad_signature
text_at k s = Ok (text k s)

abbrev pub byte_string_trees : List ℕ → Trees
byte_string_trees [] = first_tree (number byte 0) no_tree
byte_string_trees (c ∷ cs) = first_tree (number byte c) (byte_string_trees cs)

abbrev pub one : Tree → Trees
one v = first_tree v no_tree

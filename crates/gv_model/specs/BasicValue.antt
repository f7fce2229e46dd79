-- The value of bytes at a basic type.
-- GVariant Specification, "Serialisation of Base Types", and of "Handling Non-Normal Serialised Data":
-- "Wrong Size for Fixed Size Value", "Boolean Out of Range", "Non-Null-Terminated Strings". A string with a
-- zero byte inside reads as the default, where the specification takes the part before it (this
-- project's rule).
use Rattle.std.specs.Prelude.{ℕ, ◌+◌, ◌*◌, List, [], ◌∷◌, length, Option, Some, None, ◌==◌, if◌then◌else◌, option_map, Bool, true, false}
use Rattle.gv_model.specs.Ty.{Basic}
use Rattle.gv_model.specs.Ty.Basic.{boolean}
use Rattle.gv_model.specs.Layout.{basic_size}
use Rattle.gv_model.specs.Tree.{Tree, basic_default}
use Rattle.gv_model.specs.Tree.Tree.{number, text}
use Rattle.gv_model.specs.Texts.{is_text}

-- the number in bytes, the lowest byte first
unfoldable pub number_in : List ℕ → ℕ
number_in [] = 0
number_in (b ∷ bs) = b + 256 * number_in bs

-- a boolean byte other than 0 is true
abbrev pub truth : ℕ → ℕ
truth n = if n == 0 then 0 else 1

abbrev pub truth_bits : Bool → ℕ
truth_bits true = 1
truth_bits false = 0

abbrev pub bits_of : Basic → ℕ → ℕ
bits_of boolean n = truth n
bits_of k n = n

-- the text before a zero byte that is the last and the only one
unfoldable pub text_in : List ℕ → Option (List ℕ)
text_in [] = None
text_in (c ∷ []) = if c == 0 then Some [] else None
text_in (c ∷ d ∷ cs) = if c == 0 then None else option_map (λ s. c ∷ s) (text_in (d ∷ cs))

abbrev pub text_or_default : Basic → Option (List ℕ) → Tree
text_or_default k None = basic_default k
text_or_default k (Some s) = if is_text k s then text k s else basic_default k

-- at a type of this size, or of none
abbrev pub basic_of_size : Basic → List ℕ → Option ℕ → Tree
basic_of_size k b None = text_or_default k (text_in b)
basic_of_size k b (Some n) = if length b == n then number k (bits_of k (number_in b)) else basic_default k

unfoldable pub basic_value : Basic → List ℕ → Tree
basic_value k b = basic_of_size k b (basic_size k)

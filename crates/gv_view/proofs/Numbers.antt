-- Numbers in the bytes of basic types.
use Rattle.std.proofs.Common.{◌≡◌, ◌≢◌, ◌<◌, ◌+◌, ◌*◌, ◌^◌, ℕ, ℤ, zero, suc, List, [], length, get_or, take, drop, Some, true, false, refl, sym, ap, ◌∙◌, arith, eq-eqb, ne_eqb, ◌==◌}
use Rattle.std.specs.Prelude.{replicate}
use Rattle.std.specs.Int.{Width, cast_signed, cast_unsigned}
use mir.Val.{bits}
use Rattle.std.proofs.lemmas.Int.{of_z-to_z}
use Rattle.std.proofs.Math.Seq.{drop-cons}
use Rattle.std.proofs.lemmas.List.{drop_all}
use Rattle.std.proofs.lemmas.Option.{none-some}
use Rattle.byteorder.specs.Endian.{little_number, little_from}
use Rattle.gv_model.specs.Ty.{Basic}
use Rattle.gv_model.specs.Ty.Ty.{basic}
use Rattle.gv_model.specs.Ty.Basic.{boolean, string, path, signature}
use Rattle.gv_model.specs.Layout.{basic_size}
use Rattle.gv_model.specs.Tree.{basic_default}
use Rattle.gv_model.specs.Tree.Tree.{number}
use Rattle.gv_model.specs.BasicValue.{basic_value, basic_of_size, bits_of, number_in}
use Rattle.gv_model.specs.Decode.{decode}
use Rattle.gv_model.proofs.DecodeLaws.{decode_children}

decode_basic : (k : Basic) (b : List ℕ) (size : ℕ) → basic_size k ≡ Some size → decode (basic k) b ≡ basic_of_size k b (Some size)
unfolding basic_value
decode_basic k b size e = decode_children (basic k) b ∙ ap (basic_of_size k b) e

-- bytes of the right size are a number
pub whole_number : (k : Basic) (b : List ℕ) (size : ℕ) → basic_size k ≡ Some size → length b ≡ size → decode (basic k) b ≡ number k (bits_of k (number_in b))
whole_number k b size e h = decode_basic k b size e ∙ (let same : (length b == size) ≡ true = eq-eqb (length b) size h in rw same refl)

default_number : (k : Basic) (size : ℕ) → basic_size k ≡ Some size → basic_default k ≡ number k 0
default_number string size e = absurd (none-some size e)
default_number path size e = absurd (none-some size e)
default_number signature size e = absurd (none-some size e)
default_number _ size e = refl

bits_of_zero : (k : Basic) → bits_of k 0 ≡ 0
bits_of_zero boolean = refl
bits_of_zero _ = refl

number_of_zeros : (n m : ℕ) → number_in (take n (replicate m 0)) ≡ 0
unfolding number_in
number_of_zeros zero m = refl
number_of_zeros (suc n) zero = refl
number_of_zeros (suc n) (suc m) = omega (arith, number_of_zeros n m)

-- bytes of another size are the number 0, as zeros are
pub other_number : (k : Basic) (b : List ℕ) (size : ℕ) → basic_size k ≡ Some size → length b ≢ size → decode (basic k) b ≡ number k (bits_of k (number_in (take size (replicate 8 0))))
other_number k b size e h =
    let other : (length b == size) ≡ false = ne_eqb (length b) size h in
    let zeros : bits_of k (number_in (take size (replicate 8 0))) ≡ 0 = ap (bits_of k) (number_of_zeros size 8) ∙ bits_of_zero k in
    decode_basic k b size e ∙ (rw other (default_number k size e) ∙ ap (number k) (sym zeros))

-- the crate's number and the model's
from_place : (n i : ℕ) (b : List ℕ) → i + n ≡ length b → little_from i n b ≡ number_in (drop i b)
unfolding number_in
from_place zero i b h = let e : drop i b ≡ [] = drop_all i b (omega arith) in rw e refl
from_place (suc n) i b h =
    let there : i < length b = omega arith in
    rw (drop-cons b i 0) (ap (λ m. get_or b i 0 + 256 * m) (from_place n (suc i) b (omega arith)))

pub little_number-whole : (n : ℕ) (b : List ℕ) → length b ≡ n → little_number n b ≡ number_in b
little_number-whole n b h = from_place n 0 b (omega arith)

-- a signed number and its bits
pub bits_of_signed : (w : Width) (n : ℕ) (z : ℤ) → z ≡ cast_signed w n → n < 2 ^ bits w → cast_unsigned w (cast_signed w (cast_unsigned w z)) ≡ n
bits_of_signed w n z e h =
    let there : cast_unsigned w z ≡ n = ap (cast_unsigned w) e ∙ of_z-to_z w n h in
    ap (λ m. cast_unsigned w (cast_signed w m)) there ∙ of_z-to_z w n h

-- Types as trees of numbers, by which a proof tells values apart. Nothing here is to be believed: that they are told apart is proved.
use Rattle.std.specs.Prelude.{ℕ, List, [], ◌∷◌, unwrap_or}
use Rattle.std.specs.Coded.{Coded}
use base.Stored.{Gv, gnil, gnum, gcons, num}
use Rattle.gv_model.specs.Ty.{Ty, Basic}
use Rattle.gv_model.specs.Ty.Ty.{tuple}
use Rattle.gv_model.specs.Ty.Types.{end}
use Rattle.gv_model.specs.Ty.Basic.{boolean}
use Rattle.gv_model.specs.TypeText.{TypeMark, mark, seen, one_type}
use Rattle.gv_model.specs.TypeText.TypeMark.{letter}

abbrev pub numbers_code : List ℕ → Gv
numbers_code [] = gnil
numbers_code (x ∷ xs) = gcons (gnum x) (numbers_code xs)

abbrev pub numbers_of_code : Gv → List ℕ
numbers_of_code (gcons x xs) = num x ∷ numbers_of_code xs
numbers_of_code _ = []

abbrev pub type_of_numbers : List ℕ → Ty
type_of_numbers xs = unwrap_or (one_type (seen xs)) (tuple end)

abbrev pub marked : TypeMark → Basic
marked (letter k) = k
marked _ = boolean

abbrev pub basic_of_code : Gv → Basic
basic_of_code g = marked (mark (num g))

abbrev pub coded_gv : Coded Gv
coded_gv = record { code = λ g. g; inj = λ x y e. e }

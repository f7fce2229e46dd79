-- The first letter of a type's text tells its class.
use Rattle.std.proofs.Common.{ℕ, ◌≡◌, ◌<◌, List, length, get_or, Some, true, refl, ap, subst, arith}
use Rattle.gv_model.specs.Ty.{Ty, spelling}
use Rattle.gv_model.specs.Ty.Ty.{basic, variant, array, maybe, tuple, entry}
use Rattle.gv_model.specs.TypeText.{mark, is_type, type_at}
use Rattle.gv_model.proofs.TypeTextLaws.{mark_letter}
use Rattle.gv_model.proofs.TypeTextParts.{spelling-type_at}
use Rattle.gv_types.specs.Classes.{class_of, class_of_mark}

-- the first letter of a type's text tells its class
pub record StartsWithClass (w : List ℕ) (t : Ty) : Type 0 where
  pub some : 0 < length w
  pub class : class_of_mark (mark (get_or w 0 0)) ≡ Some (class_of t)

pub starts_with_class : (t : Ty) → StartsWithClass (spelling t) t
unfolding spelling mark
starts_with_class (basic k) = record { some = omega arith; class = ap class_of_mark (mark_letter k) }
starts_with_class _ = record { some = omega arith; class = refl }

pub first_class : (w : List ℕ) → is_type w ≡ true → StartsWithClass w (type_at w)
first_class w h = subst (λ (v : List ℕ). StartsWithClass v (type_at w)) (spelling-type_at w h).0 (starts_with_class (type_at w))

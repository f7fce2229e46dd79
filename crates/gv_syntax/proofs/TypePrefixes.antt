-- The type at the start of a text is no longer than the text.
use Rattle.std.proofs.Common.{ℕ, suc, ◌+◌, ◌≤◌, ◌≡◌, List, [], ◌∷◌, ◌++◌, Option, Some, None, length, refl, ap, ◌∙◌, arith, length-append}
use Rattle.gv_model.specs.Ty.{Ty, spelling}
use Rattle.gv_model.specs.TypeText.{type_of_text}
use Rattle.gv_model.specs.Lexing.{type_prefix, or_else}
use Rattle.gv_model.proofs.TypeTextSound.{spelling_of_read}

pub type_prefix_fits : (prefix cs : List ℕ) (t : Ty) → type_prefix prefix cs ≡ Some t → length (spelling t) ≤ length prefix + length cs
unfolding type_prefix
type_prefix_fits prefix [] t e = omega (arith, ap length (spelling_of_read prefix t e).0)
type_prefix_fits prefix (c ∷ cs) t e = either (type_of_text prefix) refl e (type_prefix_fits (prefix ++ c ∷ []) cs t)
  where
    either : (r : Option Ty) → type_of_text prefix ≡ r → or_else r (type_prefix (prefix ++ c ∷ []) cs) ≡ Some t
        → (type_prefix (prefix ++ c ∷ []) cs ≡ Some t → length (spelling t) ≤ length (prefix ++ c ∷ []) + length cs) → length (spelling t) ≤ length prefix + suc (length cs)
    either (Some u) is same later = omega (arith, ap length (spelling_of_read prefix t (is ∙ same)).0)
    either None is same later = let less = later same in omega (arith, less, length-append prefix (c ∷ []))

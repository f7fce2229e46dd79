-- Words, byte by byte.
use Rattle.std.proofs.Common.{ℕ, suc, ◌≡◌, Bool, true, false, List, [], ◌∷◌, length, refl, sym, ap, ap₂, ◌∙◌, arith, eq-eqb}
use Rattle.std.specs.Prelude.{nat_eq, ◌&&◌, ◌==◌}
use Rattle.std.specs.Cmp.Lexicographic.{pointwise}
use Rattle.std.proofs.lemmas.Bool.{ne_eqb, eqb-true, false≢true}
use Rattle.gv_model.specs.Characters.{same_text, has_no_bytes}

pub same_text_is : (xs ys : List ℕ) → pointwise nat_eq xs ys ≡ same_text xs ys
unfolding same_text
same_text_is [] [] = refl
same_text_is [] (y ∷ ys) = refl
same_text_is (x ∷ xs) [] = refl
same_text_is (x ∷ xs) (y ∷ ys) = ap (λ r. (x == y) && r) (same_text_is xs ys)

pub empty_is : (s : List ℕ) → nat_eq (length s) 0 ≡ has_no_bytes s
empty_is [] = refl
empty_is (c ∷ cs) = ne_eqb (suc (length cs)) 0 (λ e. omega arith)

equal_swaps : (x y : ℕ) (b : Bool) → (x == y) ≡ b → (y == x) ≡ b
equal_swaps x y true e = eq-eqb y x (sym (eqb-true x y e))
equal_swaps x y false e = ne_eqb y x (λ same. false≢true (sym e ∙ eq-eqb x y (sym same)))

pub same_text_swaps : (xs ys : List ℕ) → same_text xs ys ≡ same_text ys xs
unfolding same_text
same_text_swaps [] [] = refl
same_text_swaps [] (y ∷ ys) = refl
same_text_swaps (x ∷ xs) [] = refl
same_text_swaps (x ∷ xs) (y ∷ ys) = ap₂ ◌&&◌ (sym (equal_swaps x y (x == y) refl)) (same_text_swaps xs ys)

-- Small facts on lists and options.
use Rattle.std.proofs.Common.{◌≡◌, ℕ, zero, suc, ◌+◌, ◌-◌, ◌*◌, ◌≤◌, min, List, [], ◌∷◌, length, drop, Some, None, refl, ap, sym, ◌∙◌, arith}
use Rattle.std.specs.Prelude.{slice_get}
use Rattle.std.proofs.lemmas.List.{drop-drop, drop_min}
use Rattle.std.proofs.Math.Seq.{drop-nil}
use Rattle.gv_model.proofs.ListLaws.{nil_no_cons}

pub one_less : (w left m : ℕ) → 1 ≤ left → m ≡ left - 1 → w * left ≡ w * m + w
one_less w zero m h e = absurd (omega arith)
one_less w (suc k) m h e = let same : m ≡ k = omega arith in rw same (omega arith)

-- the items after one more
pub drop_next : {X : Type 0} (xs ys : List X) (x : X) (k : ℕ) → drop k xs ≡ x ∷ ys → ys ≡ drop (k + 1) xs
drop_next xs ys x k e = ap (drop 1) (sym e) ∙ drop-drop 1 k xs

pub drop_past : {X : Type 0} (xs : List X) (k i : ℕ) → drop k xs ≡ [] → k ≤ i → [] ≡ drop i xs
drop_past xs k i e h =
    sym (drop-nil (i - k)) ∙ (ap (drop (i - k)) (sym e) ∙ (drop-drop (i - k) k xs ∙ ap (λ n. drop n xs) (omega arith)))

pub get_drop : {X : Type 0} (xs : List X) (i : ℕ) (x : X) (ys : List X) → drop i xs ≡ x ∷ ys → slice_get xs i ≡ Some x
get_drop [] i x ys e = absurd (nil_no_cons (sym (drop-nil i) ∙ e))
get_drop (z ∷ xs) zero x ys e = cc
get_drop (z ∷ xs) (suc i) x ys e = get_drop xs i x ys e

pub get_past : {X : Type 0} (xs : List X) (i : ℕ) → drop i xs ≡ [] → slice_get xs i ≡ None
get_past [] i e = refl
get_past (z ∷ xs) zero e = absurd (nil_no_cons (sym e))
get_past (z ∷ xs) (suc i) e = get_past xs i e

-- as many as there are, or fewer
pub drop_within : {X : Type 0} (xs : List X) (i p : ℕ) → p ≡ min i (length xs) → drop p xs ≡ drop i xs
drop_within xs i p e = ap (λ n. drop n xs) e ∙ drop_min i xs

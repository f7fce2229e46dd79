-- Lists that are taken apart from the start.
use Rattle.std.proofs.Common.{◌≡◌, suc, List, [], ◌∷◌, Some, None, Option, sym, subst, ◌∙◌, arith}
use Rattle.std.specs.Prelude.{All, MatchOption}

pub All-first : {A : Type 0} (P : A → Type 0) (xs ys : List A) (x : A) → xs ≡ x ∷ ys → All P xs → P x
All-first P xs ys x e h = subst (All P) e h 0 x (omega arith)

pub All-rest : {A : Type 0} (P : A → Type 0) (xs ys : List A) (x : A) → xs ≡ x ∷ ys → All P xs → All P ys
All-rest P xs ys x e h = λ k d lt. subst (All P) e h (suc k) d (omega arith)

pub All-left : {A B : Type 0} (view : A → B) (P : B → Type 0) (xs ys : List B) (r : Option A) → MatchOption r ((xs ≡ []) × (ys ≡ [])) (λ x. xs ≡ view x ∷ ys) → All P xs → All P ys
All-left view P xs ys None e h = subst (All P) (e.0 ∙ sym e.1) h
All-left view P xs ys (Some x) e h = All-rest P xs ys (view x) e h

-- One append of bytes after another.
use Rattle.std.proofs.Common.{ℕ, ◌≡◌, List, ◌++◌, ap, ◌∙◌, append_assoc}

pub then_append : (first next last x y : List ℕ) → next ≡ first ++ x → last ≡ next ++ y → last ≡ first ++ (x ++ y)
then_append first next last x y e f = f ∙ (ap (λ (l : List ℕ). l ++ y) e ∙ append_assoc first x y)

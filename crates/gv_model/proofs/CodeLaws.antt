-- A type and a text are what their numbers are read as.
use Rattle.std.proofs.Common.{◌≡◌, ℕ, List, [], ◌∷◌, refl, ap, ◌∙◌}
use Rattle.std.specs.Prelude.{unwrap_or}
use base.Stored.{gnum}
use Rattle.gv_model.specs.Ty.{Ty, Basic, spelling, letter as letter_of}
use Rattle.gv_model.specs.Ty.Ty.{tuple}
use Rattle.gv_model.specs.Ty.Types.{end}
use Rattle.gv_model.specs.TypeText.{one_type}
use Rattle.gv_model.specs.Codes.{numbers_code, numbers_of_code, type_of_numbers, marked, basic_of_code}
use Rattle.gv_model.proofs.TypeTextLaws.{mark_letter, seen_type}

pub numbers_back : (xs : List ℕ) → numbers_of_code (numbers_code xs) ≡ xs
numbers_back [] = refl
numbers_back (x ∷ xs) = ap (λ ys. x ∷ ys) (numbers_back xs)

pub basic_back : (k : Basic) → basic_of_code (gnum (letter_of k)) ≡ k
basic_back k = ap marked (mark_letter k)

pub type_back : (t : Ty) → type_of_numbers (numbers_of_code (numbers_code (spelling t))) ≡ t
type_back t = ap type_of_numbers (numbers_back (spelling t)) ∙ ap (λ s. unwrap_or (one_type s) (tuple end)) (seen_type t)

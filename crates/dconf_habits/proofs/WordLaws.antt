-- Words of a line, as bytes.
use Rattle.std.proofs.Common.{◌≡◌, ◌||◌, Bool, List, [], ◌∷◌, refl, ap}
use Rattle.std.specs.Prelude.{map}
use Rattle.std.specs.List.{list_any}

pub list_any-map : {X Y : Type 0} (f : Y → Bool) (h : X → Y) (xs : List X) → list_any (λ x. f (h x)) xs ≡ list_any f (map h xs)
list_any-map f h [] = refl
list_any-map f h (x ∷ xs) = ap (λ b. f (h x) || b) (list_any-map f h xs)

-- Lists in the byte order of a name. Each thing is put before those whose names are not less, so that things of one name
-- keep their order.
use Rattle.std.specs.Prelude.{◌≡◌, ℕ, Bool, true, List, [], ◌∷◌, if◌then◌else◌, IsPermutation}
use Rattle.std.specs.List.{dedup, list_any}
use Rattle.std.specs.List.Sorted.{IsSortedByKey, IsStableByKey}
use Rattle.std.specs.Str.{bytes_eq}
use Rattle.std.specs.Ordering.{nat_cmp, is_le, is_lt}
use Rattle.std.specs.Cmp.Lexicographic.{slice_cmp}

abbrev pub is_at_most : List ℕ → List ℕ → Bool
is_at_most a b = is_le (slice_cmp nat_cmp a b)

abbrev pub put_by : {X : Type 0} → (X → List ℕ) → X → List X → List X
put_by name x [] = x ∷ []
put_by name x (y ∷ ys) = if is_at_most (name x) (name y) then x ∷ y ∷ ys else y ∷ put_by name x ys

abbrev pub in_order : {X : Type 0} → (X → List ℕ) → List X → List X
in_order name [] = []
in_order name (x ∷ xs) = put_by name x (in_order name xs)

-- texts in byte order, once each
abbrev pub listing : List (List ℕ) → List (List ℕ)
listing texts = dedup bytes_eq (in_order (λ t. t) texts)

-- ---- laws

pub record AreInOrder {X : Type 0} (name : X → List ℕ) (xs ys : List X) : Type 0 where
  pub same : IsPermutation xs ys
  pub sorted : IsSortedByKey name (slice_cmp nat_cmp) ys
  pub stable : IsStableByKey name (slice_cmp nat_cmp) xs ys

-- the same things, in the order of their names, those of one name in the order that they had
abbrev pub OrderIsStable : (X : Type 0) → (X → List ℕ) → Type 0
OrderIsStable X name = (xs : List X) → AreInOrder name xs (in_order name xs)

-- each text is less than the next
abbrev pub IsRising : List (List ℕ) → Type 0
IsRising [] = Unit {0}
IsRising (t ∷ []) = Unit {0}
IsRising (t ∷ u ∷ more) = (is_lt (slice_cmp nat_cmp t u) ≡ true) × IsRising (u ∷ more)

-- a listing has the same texts, once each, in order
pub record IsListingOf (texts names : List (List ℕ)) : Type 0 where
  pub rising : IsRising names
  pub same : (t : List ℕ) → list_any (bytes_eq t) names ≡ list_any (bytes_eq t) texts

abbrev pub ListingIsOnceEach : Type 0
ListingIsOnceEach = (texts : List (List ℕ)) → IsListingOf texts (listing texts)

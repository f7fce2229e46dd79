-- A prefix of a path that ends in a slash is a path.
use Rattle.std.proofs.Common.{◌≡◌, ◌≤◌, ◌+◌, ℕ, Bool, true, false, List, [], ◌∷◌, ◌++◌, ◌&&◌, ◌==◌, not, length, refl, sym, ◌∙◌, arith, length-append}
use Rattle.std.proofs.lemmas.Bool.{leb-true, le-leb, or_from, or_parts}
use Rattle.std.proofs.lemmas.List.Folds.{list_any-append}
use Rattle.dconf_model.specs.Paths.{ends_with_slash, starts_with_slash, has_two_slashes, has_zero_byte, is_short, is_path}
use Rattle.dconf_model.proofs.PathMaps.{no_truth}

record HasParts (a b c d : Bool) : Type 0 where
  first : a ≡ true
  no_zero : b ≡ false
  single : c ≡ false
  short : d ≡ true

parts_of : (a b c d : Bool) → (a && not b && not c && d) ≡ true → HasParts a b c d
parts_of true false false true e = record { first = refl; no_zero = refl; single = refl; short = refl }
parts_of true false false false e = absurd (no_truth e)
parts_of true false true d e = absurd (no_truth e)
parts_of true true c d e = absurd (no_truth e)
parts_of false b c d e = absurd (no_truth e)

of_parts : (a b c d : Bool) → HasParts a b c d → (a && not b && not c && d) ≡ true
of_parts a b c d h = rw (h.first, h.no_zero, h.single, h.short) refl

single_before : (xs ys : List ℕ) → has_two_slashes (xs ++ ys) ≡ false → has_two_slashes xs ≡ false
unfolding has_two_slashes
single_before [] ys e = refl
single_before (c ∷ []) ys e = refl
single_before (c ∷ d ∷ more) ys e =
    or_from (c == 47 && d == 47) (has_two_slashes (d ∷ more)) (or_parts (c == 47 && d == 47) (has_two_slashes (d ∷ more ++ ys)) e).0
    (single_before (d ∷ more) ys (or_parts (c == 47 && d == 47) (has_two_slashes (d ∷ more ++ ys)) e).1)

starts_before : (xs ys : List ℕ) → ends_with_slash xs ≡ true → starts_with_slash (xs ++ ys) ≡ true → starts_with_slash xs ≡ true
starts_before [] ys ends e = absurd (no_truth ends)
starts_before (c ∷ xs) ys ends e = e

pub prefix_is_path : (xs ys : List ℕ) → ends_with_slash xs ≡ true → is_path (xs ++ ys) ≡ true → is_path xs ≡ true
prefix_is_path xs ys ends e =
    let whole = parts_of (starts_with_slash (xs ++ ys)) (has_zero_byte (xs ++ ys)) (has_two_slashes (xs ++ ys)) (is_short (xs ++ ys)) e in
    let n : length (xs ++ ys) ≡ length xs + length ys = length-append xs ys in
    let small : length (xs ++ ys) ≤ 65535 = leb-true (length (xs ++ ys)) 65535 whole.short in
    of_parts (starts_with_slash xs) (has_zero_byte xs) (has_two_slashes xs) (is_short xs) record {
      first = starts_before xs ys ends whole.first;
      no_zero = (or_parts (has_zero_byte xs) (has_zero_byte ys) (sym (list_any-append (λ c. c == 0) xs ys) ∙ whole.no_zero)).0;
      single = single_before xs ys whole.single;
      short = le-leb (length xs) 65535 (omega (arith, n, small));
    }

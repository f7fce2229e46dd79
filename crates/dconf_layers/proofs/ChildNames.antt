-- The first part of a path, as it is cut.
use Rattle.std.proofs.Common.{◌≡◌, ◌+◌, ◌<◌, ℕ, suc, Bool, true, false, cond, eqb, not, List, [], ◌∷◌, ◌++◌, length, take, refl, sym, ap, ◌∙◌, arith}
use Rattle.std.specs.Io.BufRead.{take_through}
use Rattle.std.specs.List.{before_first, position_or_len}
use Rattle.std.proofs.lemmas.Bool.{eqb-true}
use Rattle.dconf_model.specs.Paths.{first_part}

abbrev slash : ℕ → Bool
slash b = eqb b 47

pub through_slash : (xs : List ℕ) → position_or_len slash xs < length xs → before_first slash xs ++ 47 ∷ [] ≡ first_part xs
through_slash [] within = absurd (omega (arith, within))
through_slash (x ∷ xs) within = go (slash x) refl within (through_slash xs)
  where
    go : (b : Bool) → slash x ≡ b → cond (not b) (1 + position_or_len slash xs) 0 < length (x ∷ xs) → (position_or_len slash xs < length xs → before_first slash xs ++ 47 ∷ [] ≡ first_part xs) →
        take (cond (not b) (1 + position_or_len slash xs) 0) (x ∷ xs) ++ 47 ∷ [] ≡ cond b (x ∷ []) (x ∷ take_through 47 xs)
    go true e w later = ap (λ c. c ∷ []) (sym (eqb-true x 47 e))
    go false e w later =
        let more : 1 + position_or_len slash xs ≡ suc (position_or_len slash xs) = omega arith in
        ap (λ n. take n (x ∷ xs) ++ 47 ∷ []) more ∙ ap (λ (l : List ℕ). x ∷ l) (later (omega (arith, w)))

pub all_through : (xs : List ℕ) → position_or_len slash xs ≡ length xs → xs ≡ first_part xs
all_through [] e = refl
all_through (x ∷ xs) e = go (slash x) e (all_through xs)
  where
    go : (b : Bool) → cond (not b) (1 + position_or_len slash xs) 0 ≡ length (x ∷ xs) → (position_or_len slash xs ≡ length xs → xs ≡ first_part xs) → x ∷ xs ≡ cond b (x ∷ []) (x ∷ take_through 47 xs)
    go true e later = absurd (omega (arith, e))
    go false e later = ap (λ (l : List ℕ). x ∷ l) (later (omega (arith, e)))

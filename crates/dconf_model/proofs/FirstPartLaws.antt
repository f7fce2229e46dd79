-- First parts: each is its own, and the order of two that differ is that of the texts.
use Rattle.std.proofs.Common.{◌≡◌, ◌⊎◌, ◌<◌, ℕ, Bool, true, false, List, [], ◌∷◌, ◌++◌, ◌==◌, cond, length, refl, sym, ap, ◌∙◌, inl, inr, arith}
use Rattle.std.specs.Cmp.Lexicographic.{slice_cmp}
use Rattle.std.specs.Ordering.{nat_cmp, ordering_then}
use Rattle.std.specs.declared.cmp.Ordering.{Ordering}
use Rattle.std.specs.declared.cmp.Ordering.TheVariants.{Less, Equal, Greater}
use Rattle.std.specs.FinMap.{nat_cmp-IsAntisymmetric}
use Rattle.std.proofs.lemmas.Bool.{eqb-true}
use Rattle.dconf_model.specs.Paths.{first_part}
use Rattle.dconf_model.proofs.FirstParts.{EndsInSlash}
use Rattle.dconf_model.proofs.NameOrder.{prefix_step, same_ties}
use Rattle.dconf_model.proofs.ParentLaws.{by_bool}
use Rattle.dconf_model.proofs.RisingTexts.{IsLess}

-- ---- the first byte, and what follows

-- what follows the first byte in the first part
further : ℕ → List ℕ → List ℕ
further x xs = cond (x == 47) [] (first_part xs)

starts_so : (x : ℕ) (xs : List ℕ) → first_part (x ∷ xs) ≡ x ∷ further x xs
unfolding further
starts_so x xs = go (x == 47)
  where
    go : (b : Bool) → cond b (x ∷ []) (x ∷ first_part xs) ≡ x ∷ cond b [] (first_part xs)
    go true = refl
    go false = refl

ends_there : (x : ℕ) (xs : List ℕ) → (x == 47) ≡ true → further x xs ≡ []
unfolding further
ends_there x xs e = ap (λ b. cond b [] (first_part xs)) e

goes_on : (x : ℕ) (xs : List ℕ) → (x == 47) ≡ false → further x xs ≡ first_part xs
unfolding further
goes_on x xs e = ap (λ b. cond b [] (first_part xs)) e

pub some_first : (rest : List ℕ) → 0 < length rest → 0 < length (first_part rest)
some_first [] some = some
some_first (x ∷ xs) some = let e = ap length (starts_so x xs) in omega (arith, e)

-- ---- its own first part

pub first_again : (rest : List ℕ) → first_part (first_part rest) ≡ first_part rest
first_again [] = refl
first_again (x ∷ xs) =
    let here = starts_so x xs in
    ap first_part here ∙ starts_so x (further x xs) ∙ ap (λ (l : List ℕ). x ∷ l) (by_bool (x == 47) (further x (further x xs) ≡ further x xs)
    (λ yes. ends_there x (further x xs) yes ∙ sym (ends_there x xs yes))
    (λ other. goes_on x (further x xs) other ∙ (ap first_part (goes_on x xs other) ∙ (first_again xs ∙ sym (goes_on x xs other))))) ∙ sym here

-- it is all of the text, or it ends in a slash and more may follow
abbrev pub IsCut : List ℕ → Type 0
IsCut rest = (first_part rest ≡ rest) ⊎ (EndsInSlash (first_part rest) × ((more : List ℕ) × (rest ≡ first_part rest ++ more)))

pub cut_rest : (rest : List ℕ) → IsCut rest
cut_rest [] = inl refl
cut_rest (x ∷ xs) =
    by_bool (x == 47) (IsCut (x ∷ xs))
    (λ yes.
    let whole : first_part (x ∷ xs) ≡ x ∷ [] = starts_so x xs ∙ ap (λ (l : List ℕ). x ∷ l) (ends_there x xs yes) in
    inr (([], whole ∙ ap (λ (c : ℕ). c ∷ []) (eqb-true x 47 yes)), (xs, sym (ap (λ (l : List ℕ). l ++ xs) whole))))
    (λ other.
    let whole : first_part (x ∷ xs) ≡ x ∷ first_part xs = starts_so x xs ∙ ap (λ (l : List ℕ). x ∷ l) (goes_on x xs other) in
    elim (cut_rest xs) [
      | inl all ↦ inl (whole ∙ ap (λ (l : List ℕ). x ∷ l) all)
      | inr h ↦ inr (
        (x ∷ h.0.0, whole ∙ ap (λ (l : List ℕ). x ∷ l) h.0.1),
        (h.1.0, ap (λ (l : List ℕ). x ∷ l) h.1.1 ∙ sym (ap (λ (l : List ℕ). l ++ h.1.0) whole)),
      )
    ])

-- ---- the order

later_less : (x y : ℕ) (r s : List ℕ) → x ≡ y → (IsLess (first_part r) (first_part s) → IsLess r s) → IsLess (further x r) (further y s) → IsLess r s
later_less x y r s same later less =
    by_bool (x == 47) (IsLess r s)
    (λ yes.
    let both : slice_cmp nat_cmp (further x r) (further y s) ≡ slice_cmp nat_cmp [] [] =
    ap (λ (l : List ℕ). slice_cmp nat_cmp l (further y s)) (ends_there x r yes) ∙ ap (λ (l : List ℕ). slice_cmp nat_cmp [] l) (ends_there y s (ap (λ (c : ℕ). c == 47) (sym same) ∙ yes)) in
    let wrong : Equal ≡ Less = sym both ∙ less in
    absurd cc)
    (λ other. later (
    sym (ap (λ (l : List ℕ). slice_cmp nat_cmp l (first_part s)) (goes_on x r other))
    ∙ (sym (ap (slice_cmp nat_cmp (further x r)) (goes_on y s (ap (λ (c : ℕ). c == 47) (sym same) ∙ other))) ∙ less)))

pub first_less : (r s : List ℕ) → IsLess (first_part r) (first_part s) → IsLess r s
first_less [] [] e = e
first_less [] (y ∷ s) e = refl
first_less (x ∷ r) [] e = let wrong : Greater ≡ Less = ap (λ (l : List ℕ). slice_cmp nat_cmp l []) (sym (starts_so x r)) ∙ e in absurd cc
first_less (x ∷ r) (y ∷ s) e =
    let whole : ordering_then (nat_cmp x y) (slice_cmp nat_cmp (further x r) (further y s)) ≡ Less =
    ap (λ (l : List ℕ). slice_cmp nat_cmp l (y ∷ further y s)) (sym (starts_so x r)) ∙ (ap (slice_cmp nat_cmp (first_part (x ∷ r))) (sym (starts_so y s)) ∙ e) in
    prefix_step (nat_cmp x y) (slice_cmp nat_cmp (further x r) (further y s)) (slice_cmp nat_cmp r s) whole
    (λ tie less. later_less x y r s (nat_cmp-IsAntisymmetric x y tie) (first_less r s) less)

-- behind the same directory
same_before : (directory r s : List ℕ) → slice_cmp nat_cmp (directory ++ r) (directory ++ s) ≡ slice_cmp nat_cmp r s
same_before [] r s = refl
same_before (x ∷ directory) r s =
    ap (λ (o : Ordering). ordering_then o (slice_cmp nat_cmp (directory ++ r) (directory ++ s))) (same_ties x) ∙ same_before directory r s

pub less_below : (directory r s : List ℕ) → IsLess (first_part r) (first_part s) → IsLess (directory ++ r) (directory ++ s)
less_below directory r s e = same_before directory r s ∙ first_less r s e

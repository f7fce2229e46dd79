-- One child more in its place.
use Rattle.std.proofs.Common.{ℕ, ◌+◌, ◌-◌, ◌≡◌, ◌≤◌, List, [], ◌∷◌, ◌++◌, length, Option, Some, None, cond, refl, sym, ap, ◌∙◌, subst, arith, append_assoc, length-append}
use Rattle.std.specs.Prelude.{is_some}
use Rattle.std.specs.List.{AllByRecursion}
use Rattle.gv_model.specs.Layout.{fixed_size}
use Rattle.gv_model.specs.Parts.{Part}
use Rattle.gv_model.specs.Encode.{zeros, start_after, end_after, body_from, ends_from, open_ends_from}
use Rattle.gv_model.proofs.PlacedParts.{length-zeros, le-start_after}
use Rattle.gv_model.specs.Limits.{limit}
use Rattle.gv_build.specs.Writing.{placed_bytes, open_end}
use Rattle.gv_build.proofs.Outcomes.{part_le_whole}
use Rattle.gv_build.proofs.Steps.{PlacedSoFar, FramedSoFar, MembersSoFar}

length-placed : (p : ℕ) (x : Part) → p + length (placed_bytes p x) ≡ end_after p x
length-placed p x = omega (arith, length-append (zeros (start_after p x - p)) x.1, length-zeros (start_after p x - p), le-start_after p x)

body-cons : (p : ℕ) (x : Part) (xs : List Part) → body_from p (x ∷ xs) ≡ placed_bytes p x ++ body_from (end_after p x) xs
unfolding body_from
body-cons p x xs = sym (append_assoc (zeros (start_after p x - p)) x.1 (body_from (end_after p x) xs))

ends-cons : (p : ℕ) (x : Part) (xs : List Part) → ends_from p (x ∷ xs) ≡ end_after p x ∷ ends_from (end_after p x) xs
unfolding ends_from
ends-cons p x xs = refl

open_ends-cons : (p : ℕ) (x y : Part) (xs : List Part) → open_ends_from p (x ∷ y ∷ xs) ≡ open_end (fixed_size x.0) (end_after p x) ++ open_ends_from (end_after p x) (y ∷ xs)
unfolding open_ends_from
open_ends-cons p x y xs = go (fixed_size x.0)
  where
    go : (f : Option ℕ) → cond (is_some f) (open_ends_from (end_after p x) (y ∷ xs)) (end_after p x ∷ open_ends_from (end_after p x) (y ∷ xs)) ≡ open_end f (end_after p x) ++ open_ends_from (end_after p x) (y ∷ xs)
    go None = refl
    go (Some n) = refl

pub place_end : (start p : ℕ) (out next : List ℕ) (x : Part) → start ≤ length out → length out - start ≡ p → next ≡ out ++ placed_bytes p x → length next - start ≡ end_after p x
place_end start p out next x h g e = omega (arith, ap length e, length-append out (placed_bytes p x), length-placed p x)

pub placed_next : (start : ℕ) (before out next : List ℕ) (whole : List Part) (x : Part) (xs : List Part) → PlacedSoFar start before out whole (x ∷ xs) → next ≡ out ++ placed_bytes (length out - start) x → length next ≤ limit → PlacedSoFar start before next whole xs
placed_next start before out next whole x xs h e room =
    let p = length out - start in
    let at : length next - start ≡ end_after p x = place_end start p out next x h.started refl e in
    record {
      started = omega (arith, ap length e, length-append out (placed_bytes p x), h.started);
      wrote =
          ap (λ n. next ++ body_from n xs) at ∙ (ap (λ ys. ys ++ body_from (end_after p x) xs) e
          ∙ (append_assoc out (placed_bytes p x) (body_from (end_after p x) xs) ∙ (ap (λ ys. out ++ ys) (sym (body-cons p x xs)) ∙ h.wrote)));
      room = room;
    }

-- a child in its place is no longer than the whole body
pub placed_part : (start : ℕ) (before out : List ℕ) (whole left : List Part) (x : Part) (xs : List Part) → left ≡ x ∷ xs → PlacedSoFar start before out whole left → length out + length (placed_bytes (length out - start) x) ≤ length before + length (body_from 0 whole)
placed_part start before out whole left x xs here h =
    let p = length out - start in
    part_le_whole out (placed_bytes p x) (body_from (end_after p x) xs) before (body_from 0 whole) (ap (λ ys. out ++ ys) (sym (body-cons p x xs) ∙ ap (body_from p) (sym here)) ∙ h.wrote)

abbrev pub AtMost : ℕ → List ℕ → Type 0
AtMost n xs = AllByRecursion (λ e. e ≤ n) xs

pub at_most_more : (m n : ℕ) (xs : List ℕ) → m ≤ n → AtMost m xs → AtMost n xs
at_most_more m n [] h g = tt
at_most_more m n (x ∷ xs) h g = (omega (arith, g.0), at_most_more m n xs h g.1)

pub at_most-append : (n : ℕ) (xs ys : List ℕ) → AtMost n xs → AtMost n ys → AtMost n (xs ++ ys)
at_most-append n [] ys h g = g
at_most-append n (x ∷ xs) ys h g = (h.0, at_most-append n xs ys h.1 g)

at_most-open : (n : ℕ) (f : Option ℕ) → AtMost n (open_end f n)
at_most-open n None = (omega arith, tt)
at_most-open n (Some s) = tt

-- an element more
pub framed_next : (start : ℕ) (before out next ends more : List ℕ) (whole left : List Part) (x : Part) (xs : List Part) → left ≡ x ∷ xs
    → FramedSoFar start before out ends whole left → next ≡ out ++ placed_bytes (length out - start) x → length next ≤ limit
    → more ≡ ends ++ (length next - start) ∷ [] → FramedSoFar start before next more whole xs
framed_next start before out next ends more whole left x xs here so_far e room g =
    let h = subst (FramedSoFar start before out ends whole) here so_far in
    let p = length out - start in
    let q = length next - start in
    let at : q ≡ end_after p x = place_end start p out next x h.placed.started refl e in
    let later : p ≤ q = omega (arith, ap length e, length-append out (placed_bytes p x)) in
    record {
      placed = placed_next start before out next whole x xs h.placed e room;
      ended =
          ap (λ ys. ys ++ ends_from q xs) g ∙ (append_assoc ends (q ∷ []) (ends_from q xs)
          ∙ (ap (λ n. ends ++ (n ∷ ends_from n xs)) at ∙ (ap (λ ys. ends ++ ys) (sym (ends-cons p x xs)) ∙ h.ended)));
      within = subst (AtMost q) (sym g) (at_most-append q ends (q ∷ []) (at_most_more p q ends later h.within) (omega arith, tt));
    }

-- a member more, after which there are others
pub members_next : (start : ℕ) (before out next ends more : List ℕ) (whole left : List Part) (x y : Part) (xs : List Part) → left ≡ x ∷ y ∷ xs
    → MembersSoFar start before out ends whole left → next ≡ out ++ placed_bytes (length out - start) x → length next ≤ limit
    → more ≡ ends ++ open_end (fixed_size x.0) (length next - start) → MembersSoFar start before next more whole (y ∷ xs)
members_next start before out next ends more whole left x y xs here so_far e room g =
    let h = subst (MembersSoFar start before out ends whole) here so_far in
    let p = length out - start in
    let q = length next - start in
    let at : q ≡ end_after p x = place_end start p out next x h.placed.started refl e in
    let later : p ≤ q = omega (arith, ap length e, length-append out (placed_bytes p x)) in
    record {
      placed = placed_next start before out next whole x (y ∷ xs) h.placed e room;
      ended =
          ap (λ ys. ys ++ open_ends_from q (y ∷ xs)) g ∙ (append_assoc ends (open_end (fixed_size x.0) q) (open_ends_from q (y ∷ xs))
          ∙ (ap (λ n. ends ++ (open_end (fixed_size x.0) n ++ open_ends_from n (y ∷ xs))) at ∙ (ap (λ ys. ends ++ ys) (sym (open_ends-cons p x y xs)) ∙ h.ended)));
      within = subst (AtMost q) (sym g) (at_most-append q ends (open_end (fixed_size x.0) q) (at_most_more p q ends later h.within) (at_most-open q (fixed_size x.0)));
    }

-- What a loop has written at its end, with what is then written after it, is the whole container.
use Rattle.std.proofs.Common.{◌+◌, ℕ, ◌-◌, ◌≡◌, ◌≤◌, List, [], ◌∷◌, ◌++◌, length, drop, reverse, Option, Some, None, refl, sym, ap, ap₂, ◌∙◌, subst, arith, append_assoc, append-nil, length-append}
use Rattle.std.proofs.lemmas.List.{reverse-append, length-reverse, take_at}
use Rattle.std.specs.List.{refill}
use Rattle.gv_model.specs.Parts.{Part}
use Rattle.gv_model.specs.Encode.{joined_parts, framed, body_from, ends_from, open_ends_from, tuple_bytes, zeros}
use Rattle.gv_model.specs.Limits.{limit}
use Rattle.gv_build.specs.Writing.{placed_bytes, offsets_of, tuple_end}
use Rattle.gv_build.proofs.Outcomes.{part_le_whole}
use Rattle.gv_build.proofs.Steps.{JoinedSoFar, PlacedSoFar, FramedSoFar, MembersSoFar}
use Rattle.gv_build.proofs.Places.{AtMost, at_most-append, placed_next}

pub joined_next : (before out next : List ℕ) (whole left : List Part) (x : Part) (xs : List Part) → left ≡ x ∷ xs → JoinedSoFar before out whole left → next ≡ out ++ x.1 → length next ≤ limit → JoinedSoFar before next whole xs
joined_next before out next whole left x xs here h e room =
    record { wrote = ap (λ ys. ys ++ joined_parts xs) e ∙ (append_assoc out x.1 (joined_parts xs) ∙ (ap (λ ps. out ++ joined_parts ps) (sym here) ∙ h.wrote)); room = room }

-- an element is no longer than the rest
pub joined_part : (before out : List ℕ) (whole left : List Part) (x : Part) (xs : List Part) → left ≡ x ∷ xs → JoinedSoFar before out whole left → length out + length x.1 ≤ length before + length (joined_parts whole)
joined_part before out whole left x xs here h = part_le_whole out x.1 (joined_parts xs) before (joined_parts whole) (ap (λ ps. out ++ joined_parts ps) (sym here) ∙ h.wrote)

pub joined_end : (before out : List ℕ) (whole left : List Part) → left ≡ [] → JoinedSoFar before out whole left → out ≡ before ++ joined_parts whole
joined_end before out whole left here h = sym (append-nil out) ∙ (ap (λ ps. out ++ joined_parts ps) (sym here) ∙ h.wrote)

framed_is : (body ends : List ℕ) → framed body ends ≡ body ++ offsets_of (length body) ends
unfolding framed
framed_is body ends = refl

body_end : (start : ℕ) (before out : List ℕ) (whole : List Part) → PlacedSoFar start before out whole [] → out ≡ before ++ body_from 0 whole
unfolding body_from
body_end start before out whole h = sym (append-nil out) ∙ h.wrote

body_size : (start : ℕ) (before out : List ℕ) (whole : List Part) → PlacedSoFar start before out whole [] → start ≡ length before → length out - start ≡ length (body_from 0 whole)
body_size start before out whole h g = omega (arith, ap length (body_end start before out whole h), length-append before (body_from 0 whole))

after_body : (before out body offsets : List ℕ) → out ≡ before ++ body → out ++ offsets ≡ before ++ (body ++ offsets)
after_body before out body offsets e = ap (λ ys. ys ++ offsets) e ∙ append_assoc before body offsets

ends_end : (ends : List ℕ) (p : ℕ) (whole : List Part) → ends ++ ends_from p [] ≡ ends_from 0 whole → ends ≡ ends_from 0 whole
unfolding ends_from
ends_end ends p whole h = sym (append-nil ends) ∙ h

open_ends_end : (ends : List ℕ) (p : ℕ) (x : Part) (whole : List Part) → ends ++ open_ends_from p (x ∷ []) ≡ open_ends_from 0 whole → ends ≡ open_ends_from 0 whole
unfolding open_ends_from
open_ends_end ends p x whole h = sym (append-nil ends) ∙ h

pub framed_end : (start n : ℕ) (before out ends slice : List ℕ) (whole left : List Part) → left ≡ [] → FramedSoFar start before out ends whole left → start ≡ length before → n ≡ length out → slice ≡ ends → out ++ offsets_of (n - start) slice ≡ before ++ framed (body_from 0 whole) (ends_from 0 whole)
framed_end start n before out ends slice whole left here so_far g k same =
    let h = subst (FramedSoFar start before out ends whole) here so_far in
    let size : n - start ≡ length (body_from 0 whole) = ap (λ m. m - start) k ∙ body_size start before out whole h.placed g in
    ap₂ (λ m es. out ++ offsets_of m es) size (same ∙ ends_end ends (length out - start) whole h.ended)
    ∙ (after_body before out (body_from 0 whole) (offsets_of (length (body_from 0 whole)) (ends_from 0 whole)) (body_end start before out whole h.placed)
    ∙ ap (λ ys. before ++ ys) (sym (framed_is (body_from 0 whole) (ends_from 0 whole))))

pub framed_long : (body ends : List ℕ) → length body ≤ length (framed body ends)
unfolding framed
framed_long body ends = omega (arith, length-append body (offsets_of (length body) ends))

pub tuple_long : (whole : List Part) (f : Option ℕ) → length (body_from 0 whole) ≤ length (tuple_bytes whole f)
tuple_long whole None = framed_long (body_from 0 whole) (reverse (open_ends_from 0 whole))
tuple_long whole (Some n) = omega (arith, length-append (body_from 0 whole) (zeros (n - length (body_from 0 whole))))

pub at_most-reverse : (n : ℕ) (xs : List ℕ) → AtMost n xs → AtMost n (reverse xs)
at_most-reverse n [] h = tt
at_most-reverse n (x ∷ xs) h = subst (AtMost n) (sym (reverse-append (x ∷ []) xs)) (at_most-append n (reverse xs) (x ∷ []) (at_most-reverse n xs h.1) (h.0, tt))

pub members_end : (start n : ℕ) (before out next ends slice : List ℕ) (whole left : List Part) (x : Part) (f g : Option ℕ) → left ≡ x ∷ []
    → MembersSoFar start before out ends whole left → next ≡ out ++ placed_bytes (length out - start) x → length next ≤ limit → start ≡ length before → n ≡ length next
    → slice ≡ reverse ends → g ≡ f → next ++ tuple_end g (n - start) slice ≡ before ++ tuple_bytes whole f
members_end start n before out next ends slice whole left x f g here so_far e room k m same size =
    let h = subst (MembersSoFar start before out ends whole) here so_far in
    let placed = placed_next start before out next whole x [] h.placed e room in
    let body = body_from 0 whole in
    let at : n - start ≡ length body = ap (λ j. j - start) m ∙ body_size start before next whole placed k in
    let turned : slice ≡ reverse (open_ends_from 0 whole) = same ∙ ap reverse (open_ends_end ends (length out - start) x whole h.ended) in
    ap (λ s. next ++ tuple_end s (n - start) slice) size
    ∙ (ap₂ (λ j es. next ++ tuple_end f j es) at turned ∙ go f (body_end start before next whole placed))
  where
    go : (s : Option ℕ) → next ≡ before ++ body_from 0 whole → next ++ tuple_end s (length (body_from 0 whole)) (reverse (open_ends_from 0 whole)) ≡ before ++ tuple_bytes whole s
    go None body = after_body before next (body_from 0 whole) (offsets_of (length (body_from 0 whole)) (reverse (open_ends_from 0 whole))) body ∙ ap (λ ys. before ++ ys) (sym (framed_is (body_from 0 whole) (reverse (open_ends_from 0 whole))))
    go (Some s) body = after_body before next (body_from 0 whole) (zeros (s - length (body_from 0 whole))) body

-- two parts after what there was
pub two_parts : (mid out a b b' e : List ℕ) → mid ≡ out ++ a → b ≡ b' → e ≡ a ++ b' → mid ++ b ≡ out ++ e
two_parts mid out a b b' e h g k = ap₂ ◌++◌ h g ∙ (append_assoc out a b' ∙ ap (λ ys. out ++ ys) (sym k))

-- what was turned round in place
pub refill_turned : (xs ys : List ℕ) → ys ≡ reverse xs → refill (length xs) xs ys ≡ reverse xs
refill_turned xs ys same = ap (refill (length xs) xs) same ∙ take_at (reverse xs) (drop (length (reverse xs)) xs) (length xs) (length-reverse xs)

-- in a buffer that was empty
pub two_parts_alone : (mid start a b b' e : List ℕ) → start ≡ [] → mid ≡ start ++ a → b ≡ b' → e ≡ a ++ b' → mid ++ b ≡ e
two_parts_alone mid start a b b' e none h g k = two_parts mid [] a b b' e (h ∙ ap (λ ys. ys ++ a) none) g k

-- Children in order, and from the first on that is out of order.
use Rattle.std.proofs.Common.{◌≡◌, ℕ, ◌/◌, ◌%◌, ◌<◌, ◌≤◌, Bool, true, false, cond, ◌==◌, map, List, [], ◌∷◌, length, Option, Some, None, refl, sym, ap, ◌∙◌, arith}
use Rattle.std.specs.Prelude.{option_map}
use Rattle.std.proofs.lemmas.Option.{none-some, same_Some}
use Rattle.std.proofs.lemmas.List.{length-map}
use Rattle.std.proofs.Math.Nat.{div-mul-le_self}
use Rattle.gv_model.specs.Ty.{Ty}
use Rattle.gv_model.specs.Children.{Span, children_at, is_out, nowhere, ordered}
use Rattle.gv_model.specs.Arrays.{element_spans, fixed_spans}
use Rattle.gv_model.proofs.LayoutLaws.{bounds_within}
use Rattle.gv_model.proofs.PlacedParts.{ordered-nil, ordered-fixed}
use Rattle.gv_model.proofs.ValueBound.{length-ordered, length-children}
use Rattle.gv_layout.specs.Places.{clamp}
use Rattle.gv_layout.proofs.Alike.{child}

pub in_bounds : (m s e : ℕ) → is_out (Some m) (Some (s, e)) ≡ false → (s ≤ e) × (e ≤ m)
in_bounds m s e h = grind (arith, h)

out_if : (m s e : ℕ) → (s ≤ e → e ≤ m → ⊥) → is_out (Some m) (Some (s, e)) ≡ true
out_if m s e f = go (is_out (Some m) (Some (s, e))) refl
  where
    go : (c : Bool) → is_out (Some m) (Some (s, e)) ≡ c → c ≡ true
    go true h = refl
    go false h = let within = in_bounds m s e h in absurd (f within.0 within.1)

not_out : (m s e : ℕ) → is_out (Some m) (Some (s, e)) ≡ true → s ≤ e → e ≤ m → ⊥
not_out m s e h g k = grind (arith, h)

-- places that are alike past the end of the bytes are out of order alike
pub out_alike : (n m s r e f : ℕ) → m ≤ n → clamp n s ≡ clamp n r → clamp n e ≡ clamp n f → is_out (Some m) (Some (s, e)) ≡ true → is_out (Some m) (Some (r, f)) ≡ true
out_alike n m s r e f within starts ends out =
    out_if m r f (λ h g. not_out m s e out (omega (arith, within, starts, ends, h, g)) (omega (arith, within, starts, ends, h, g)))

-- a place within the bytes is like itself alone
pub same_within : (n m p q : ℕ) → m ≤ n → p ≤ m → clamp n p ≡ clamp n q → q ≡ p
same_within n m p q h g e = omega (arith, h, g, e)

pub kept : (n m : ℕ) (t : Ty) (s e : ℕ) (xs : List (Ty × Span)) → m ≤ n → is_out (Some m) (Some (s, e)) ≡ false
    → children_at n (ordered (Some m) ((t, Some (s, e)) ∷ xs)) ≡ child t s e ∷ children_at n (ordered (Some m) xs)
unfolding ordered
kept n m t s e xs h g =
    let within = in_bounds m s e g in
    ap (λ (c : Bool). children_at n (cond c (map nowhere ((t, Some (s, e)) ∷ xs)) ((t, Some (s, e)) ∷ ordered (Some m) xs))) g
    ∙ ap (λ (q : ℕ × ℕ). child t q.0 q.1 ∷ children_at n (ordered (Some m) xs)) (bounds_within n s e within.0 (omega (arith, within.1, h)))

pub dropped : (n m : ℕ) (t : Ty) (s e : ℕ) (xs : List (Ty × Span)) → is_out (Some m) (Some (s, e)) ≡ true
    → children_at n (ordered (Some m) ((t, Some (s, e)) ∷ xs)) ≡ child t 0 0 ∷ children_at n (map nowhere xs)
unfolding ordered
dropped n m t s e xs g = ap (λ (c : Bool). children_at n (cond c (map nowhere ((t, Some (s, e)) ∷ xs)) ((t, Some (s, e)) ∷ ordered (Some m) xs))) g

pub as_many : (n : ℕ) (e : Option ℕ) (xs : List (Ty × Span)) → length (children_at n (ordered e xs)) ≡ length (children_at n xs)
as_many n e xs = length-children n (ordered e xs) ∙ (length-ordered e xs ∙ sym (length-children n xs))

pub as_many_nowhere : (n : ℕ) (xs : List (Ty × Span)) → length (children_at n (map nowhere xs)) ≡ length (children_at n xs)
as_many_nowhere n xs = length-children n (map nowhere xs) ∙ (length-map xs nowhere ∙ sym (length-children n xs))

-- an end that is like this one
pub end_like : (n to : ℕ) (o : Option ℕ) → Some (clamp n to) ≡ option_map (clamp n) o → (e : ℕ) × (o ≡ Some e) × (clamp n to ≡ clamp n e)
end_like n to None h = absurd (none-some (clamp n to) (sym h))
end_like n to (Some e) h = (e, refl, same_Some (clamp n to) (clamp n e) h)

pub no_end : (n : ℕ) (o : Option ℕ) → None ≡ option_map (clamp n) o → o ≡ None
no_end n None h = refl
no_end n (Some e) h = absurd (none-some (clamp n e) h)

-- elements of a fixed size are in order
pub fixed_stay : (t : Ty) (b : List ℕ) (size : ℕ) → 0 < size → ordered (Some (length b)) (element_spans t b (Some size)) ≡ element_spans t b (Some size)
fixed_stay t b size pos = go (length b % size == 0)
  where
    go : (c : Bool) → ordered (Some (length b)) (cond c (fixed_spans t size 0 (length b / size)) []) ≡ cond c (fixed_spans t size 0 (length b / size)) []
    go true = ordered-fixed (length b) t size 0 (length b / size) (omega (arith, div-mul-le_self (length b) size))
    go false = ordered-nil (Some (length b))

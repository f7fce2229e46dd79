-- What is found at an index.
use Rattle.std.proofs.Common.{◌≡◌, ℕ, zero, suc, ◌<◌, ◌≤◌, Bool, true, false, cond, nat_le, ◌&&◌, List, [], ◌∷◌, length, drop, Option, Some, None, refl, sym, ap, ◌∙◌, arith}
use Rattle.std.specs.Prelude.{slice_get, IsSome, IfSome, MatchOption}
use Rattle.std.proofs.lemmas.List.{length-drop}
use Rattle.std.proofs.lemmas.Option.{none-some, same_Some}
use Rattle.gv_model.specs.Ty.{Ty}
use Rattle.gv_model.specs.Children.{Child, Span, child_at, children_at, ordered}
use Rattle.gv_model.specs.Decode.{cut, spans, body}
use Rattle.gv_layout.proofs.Lists.{get_past, get_drop}

pub none_at : (xs : List Child) (i : ℕ) (ys zs : List Child) → zs ≡ xs → ys ≡ drop i zs → ys ≡ [] → slice_get xs i ≡ None
none_at xs i ys zs e h g = get_past xs i (ap (drop i) (sym e) ∙ (sym h ∙ g))

pub some_at : (xs : List Child) (i : ℕ) (ys zs : List Child) (x : Child) (after : List Child) → zs ≡ xs → ys ≡ drop i zs → ys ≡ x ∷ after → slice_get xs i ≡ Some x
some_at xs i ys zs x after e h g = get_drop xs i x after (ap (drop i) (sym e) ∙ (sym h ∙ g))

pub found_below : {X : Type 0} (f : X → Child) (rest : X → List Child) (r : Option X) (xs : List Child) (i : ℕ) (ys zs : List Child)
    → zs ≡ xs → ys ≡ drop i zs → i < length xs → MatchOption r (ys ≡ []) (λ x. ys ≡ f x ∷ rest x) → IsSome r
found_below f rest None xs i ys zs e h l m = absurd (omega (arith, length-drop i xs, ap length (ap (drop i) (sym e) ∙ (sym h ∙ m))))
found_below f rest (Some x) xs i ys zs e h l m = refl

child_within : (n : ℕ) (t : Ty) (s : Span) → ((child_at n (t, s)).from ≤ (child_at n (t, s)).to) × ((child_at n (t, s)).to ≤ n)
child_within n t None = (omega arith, omega arith)
child_within n t (Some s) = go (nat_le s.0 s.1) (nat_le s.1 n) refl refl
  where
    go : (c d : Bool) → nat_le s.0 s.1 ≡ c → nat_le s.1 n ≡ d → ((cond (c && d) s (0, 0)).0 ≤ (cond (c && d) s (0, 0)).1) × ((cond (c && d) s (0, 0)).1 ≤ n)
    go true true e f = (grind arith, grind arith)
    go true false e f = (omega arith, omega arith)
    go false d e f = (omega arith, omega arith)

within_at : (n : ℕ) (xs : List (Ty × Span)) (i : ℕ) (c : Child) → slice_get (children_at n xs) i ≡ Some c → (c.from ≤ c.to) × (c.to ≤ n)
within_at n [] i c e = absurd (none-some c e)
within_at n (x ∷ xs) zero c e = let same : child_at n x ≡ c = same_Some (child_at n x) c e in rw (← same) (child_within n x.0 x.1)
within_at n (x ∷ xs) (suc i) c e = within_at n xs i c e

-- a child lies within its container
pub child_inside : (t : Ty) (b : List ℕ) (i : ℕ) (c : Child) → slice_get (cut t b) i ≡ Some c → (c.from ≤ c.to) × (c.to ≤ length b)
unfolding cut
child_inside t b i c e = within_at (length b) (ordered (body t b) (spans t b)) i c e

pub bounds_at : (t : Ty) (b : List ℕ) (i : ℕ) (c : Child) → slice_get (cut t b) i ≡ Some c → IfSome (slice_get (cut t b) i) (λ d. (c.from ≡ d.from) × (c.to ≡ d.to))
bounds_at t b i c e = rw e (refl, refl)

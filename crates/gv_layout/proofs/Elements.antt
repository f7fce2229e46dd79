-- The elements of arrays: of one size, and by framing offsets.
use Rattle.std.proofs.Common.{◌≡◌, ℕ, zero, suc, ◌+◌, ◌-◌, ◌*◌, ◌<◌, ◌≤◌, true, false, map, min, List, [], ◌∷◌, length, take, drop, Option, Some, None, refl, sym, ap, ap₂, ◌∙◌, arith, zero-add}
use Rattle.gv_model.specs.Ty.{Ty}
use Rattle.gv_model.specs.Layout.{alignment, round_up}
use Rattle.gv_model.specs.BasicValue.{number_in}
use Rattle.gv_model.specs.Children.{Child, children_at, is_out, nowhere, ordered}
use Rattle.gv_model.specs.Arrays.{fixed_spans, offset_spans, numbers_in}
use Rattle.gv_model.proofs.LayoutLaws.{bounds_within}
use Rattle.gv_layout.specs.Places.{clamp, elements_after}
use Rattle.gv_layout.proofs.Alike.{child}
use Rattle.gv_layout.proofs.InOrder.{in_bounds, out_alike, same_within, kept, dropped, as_many, as_many_nowhere}
use Rattle.gv_layout.proofs.Lists.{drop_within}

-- ---- elements of one size

pub fixed-first : (t : Ty) (n size at m : ℕ) → at + size * suc m ≤ n
    → children_at n (fixed_spans t size at (suc m)) ≡ child t at (at + size) ∷ children_at n (fixed_spans t size (at + size) m)
unfolding fixed_spans
fixed-first t n size at m h =
    ap (λ (s : ℕ × ℕ). child t s.0 s.1 ∷ children_at n (fixed_spans t size (at + size) m)) (bounds_within n at (at + size) (omega arith) (omega arith))

pub fixed-after : (t : Ty) (n size at i r m : ℕ) → i + r ≡ m
    → children_at n (fixed_spans t size (at + size * i) r) ≡ drop i (children_at n (fixed_spans t size at m))
unfolding fixed_spans
fixed-after t n size at zero r m e =
    let same : r ≡ m = omega arith in let here : at + size * 0 ≡ at = omega arith in rw (same, here) refl
fixed-after t n size at (suc i) r zero e = absurd (omega arith)
fixed-after t n size at (suc i) r (suc m) e =
    let on : at + size * suc i ≡ (at + size) + size * i = omega arith in
    rw on (fixed-after t n size (at + size) i r m (omega arith))

pub fixed-one : (t : Ty) (n to : ℕ) → children_at n (fixed_spans t to 0 1) ≡ children_at n ((t, Some (0, to)) ∷ [])
unfolding fixed_spans
fixed-one t n to = ap (λ e. children_at n ((t, Some (0, e)) ∷ [])) (zero-add to)

pub fixed-none : (t : Ty) (n size at left : ℕ) → left < 1 → children_at n (fixed_spans t size at left) ≡ []
unfolding fixed_spans
fixed-none t n size at zero h = refl
fixed-none t n size at (suc m) h = absurd (omega arith)

-- one less than there were
abbrev pub IsNext : ℕ → ℕ → Type 0
IsNext left m = (1 ≤ left) × (m ≡ left - 1)

pub fixed-next : (t : Ty) (n size at left m : ℕ) → IsNext left m → at + size * left ≤ n
    → children_at n (fixed_spans t size at left) ≡ child t at (at + size) ∷ children_at n (fixed_spans t size (at + size) m)
fixed-next t n size at zero m h g = absurd (omega arith)
fixed-next t n size at (suc k) m h g = let same : m ≡ k = omega (arith, h.1) in rw same (fixed-first t n size at k g)

pub fixed-length : (t : Ty) (n size at m : ℕ) → length (children_at n (fixed_spans t size at m)) ≡ m
unfolding fixed_spans
fixed-length t n size at zero = refl
fixed-length t n size at (suc m) = ap suc (fixed-length t n size (at + size) m)

pub fixed-passed : (t : Ty) (n size at left i passed : ℕ) → passed ≡ min i left
    → children_at n (fixed_spans t size (at + size * passed) (left - passed)) ≡ drop i (children_at n (fixed_spans t size at left))
fixed-passed t n size at left i passed e =
    fixed-after t n size at passed (left - passed) left (omega arith)
    ∙ drop_within (children_at n (fixed_spans t size at left)) i passed (omega (arith, e, fixed-length t n size at left))

-- ---- elements by framing offsets

nowhere_alike : (t : Ty) (p q : ℕ) (ends : List ℕ) → map nowhere (offset_spans t p ends) ≡ map nowhere (offset_spans t q ends)
unfolding offset_spans
nowhere_alike t p q [] = refl
nowhere_alike t p q (e ∷ ends) = refl

-- what is left of a walk
abbrev pub walked : Ty → ℕ → ℕ → ℕ → Option ℕ → ℕ → List ℕ → List Child
walked t n m w o left b = children_at n (elements_after t m o (numbers_in w left b))

spans-length : (t : Ty) (n p w m : ℕ) (b : List ℕ) → length (children_at n (offset_spans t p (numbers_in w m b))) ≡ m
unfolding offset_spans numbers_in
spans-length t n p w zero b = refl
spans-length t n p w (suc m) b = ap suc (spans-length t n (number_in (take w b)) w m (drop w b))

pub by_offsets-length : (t : Ty) (n m w left : ℕ) (o : Option ℕ) (b : List ℕ) → length (walked t n m w o left b) ≡ left
by_offsets-length t n m w left None b = as_many_nowhere n (offset_spans t 0 (numbers_in w left b)) ∙ spans-length t n 0 w left b
by_offsets-length t n m w left (Some p) b = as_many n (Some m) (offset_spans t p (numbers_in w left b)) ∙ spans-length t n p w left b

pub by_offsets-none : (t : Ty) (n m w left : ℕ) (o : Option ℕ) (b : List ℕ) → left < 1 → walked t n m w o left b ≡ []
unfolding offset_spans numbers_in ordered
by_offsets-none t n m w zero None b h = refl
by_offsets-none t n m w zero (Some p) b h = refl
by_offsets-none t n m w (suc left) o b h = absurd (omega arith)

unplaced_first : (t : Ty) (n m w k : ℕ) (b : List ℕ) → walked t n m w None (suc k) b ≡ child t 0 0 ∷ walked t n m w None k (drop w b)
unfolding offset_spans numbers_in
unplaced_first t n m w k b = ap (λ xs. child t 0 0 ∷ children_at n xs) (nowhere_alike t (number_in (take w b)) 0 (numbers_in w k (drop w b)))

pub by_offsets-unplaced : (t : Ty) (n m w left k : ℕ) (o : Option ℕ) (b back : List ℕ) (place : Child) → IsNext left k → o ≡ None → back ≡ drop w b → place ≡ child t 0 0
    → walked t n m w o left b ≡ place ∷ walked t n m w None k back
by_offsets-unplaced t n m w zero k o b back place h none is_back is_place = absurd (omega (arith, h.0))
by_offsets-unplaced t n m w (suc j) k o b back place h none is_back is_place =
    let same : k ≡ j = omega (arith, h.1) in
    ap (λ q. walked t n m w q (suc j) b) none
    ∙ (unplaced_first t n m w j b
    ∙ ap₂ (λ c cs. c ∷ cs) (sym is_place) (ap₂ (walked t n m w None) (sym same) (sym is_back)))

open_first : (t : Ty) (n m w p k : ℕ) (b : List ℕ)
    → walked t n m w (Some p) (suc k) b
    ≡ children_at n (ordered (Some m) ((t, Some (round_up (alignment t) p, number_in (take w b))) ∷ offset_spans t (number_in (take w b)) (numbers_in w k (drop w b))))
unfolding offset_spans numbers_in
open_first t n m w p k b = refl

pub by_offsets-out : (t : Ty) (n m w left k p s e : ℕ) (o : Option ℕ) (b prefix back : List ℕ) (place : Child) → m ≤ n → IsNext left k → o ≡ Some p
    → clamp n s ≡ clamp n (round_up (alignment t) p) → e ≡ number_in prefix → prefix ≡ take w b → back ≡ drop w b
    → true ≡ is_out (Some m) (Some (s, e)) → place ≡ child t 0 0
    → walked t n m w o left b ≡ place ∷ walked t n m w None k back
by_offsets-out t n m w zero k p s e o b prefix back place within h some starts is_end is_prefix is_back out is_place = absurd (omega (arith, h.0))
by_offsets-out t n m w (suc j) k p s e o b prefix back place within h some starts is_end is_prefix is_back out is_place =
    let same : k ≡ j = omega (arith, h.1) in
    let end = number_in (take w b) in
    let ends : e ≡ end = is_end ∙ ap number_in is_prefix in
    ap (λ q. walked t n m w q (suc j) b) some
    ∙ (open_first t n m w p j b
    ∙ (dropped n m t (round_up (alignment t) p) end (offset_spans t end (numbers_in w j (drop w b))) (out_alike n m s (round_up (alignment t) p) e end within starts (ap (clamp n) ends) (sym out))
    ∙ ap₂ (λ c cs. c ∷ cs) (sym is_place)
    (ap (children_at n) (nowhere_alike t end 0 (numbers_in w j (drop w b))) ∙ ap₂ (walked t n m w None) (sym same) (sym is_back))))

pub by_offsets-next : (t : Ty) (n m w left k p s e : ℕ) (o : Option ℕ) (b prefix back : List ℕ) (place : Child) → m ≤ n → IsNext left k → o ≡ Some p
    → clamp n s ≡ clamp n (round_up (alignment t) p) → e ≡ number_in prefix → prefix ≡ take w b → back ≡ drop w b
    → false ≡ is_out (Some m) (Some (s, e)) → place ≡ child t s e
    → walked t n m w o left b ≡ place ∷ walked t n m w (Some e) k back
by_offsets-next t n m w zero k p s e o b prefix back place within h some starts is_end is_prefix is_back fine is_place = absurd (omega (arith, h.0))
by_offsets-next t n m w (suc j) k p s e o b prefix back place within h some starts is_end is_prefix is_back fine is_place =
    let same : k ≡ j = omega (arith, h.1) in
    let inside = in_bounds m s e (sym fine) in
    let ends : number_in (take w b) ≡ e = sym (is_end ∙ ap number_in is_prefix) in
    let from : round_up (alignment t) p ≡ s = same_within n m s (round_up (alignment t) p) within (omega (arith, inside.0, inside.1)) starts in
    ap (λ q. walked t n m w q (suc j) b) some
    ∙ (open_first t n m w p j b
    ∙ (ap₂ (λ x y. children_at n (ordered (Some m) ((t, Some (x, y)) ∷ offset_spans t y (numbers_in w j (drop w b))))) from ends
    ∙ (kept n m t s e (offset_spans t e (numbers_in w j (drop w b))) within (sym fine)
    ∙ ap₂ (λ c cs. c ∷ cs) (sym is_place) (ap₂ (walked t n m w (Some e)) (sym same) (sym is_back)))))

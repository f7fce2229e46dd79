-- The members of tuples and entries, one after the other.
use Rattle.std.proofs.Common.{◌≡◌, ◌⊎◌, inl, inr, ℕ, suc, ◌≤◌, Bool, true, false, map, List, [], ◌∷◌, length, Option, Some, None, refl, sym, ap, ap₂, ◌∙◌, arith}
use Rattle.std.specs.Prelude.{◌↔◌, option_map, IsTrue}
use Rattle.std.proofs.lemmas.Bool.{false≢true}
use Rattle.gv_model.specs.Ty.{Ty, Types, types_from}
use Rattle.gv_model.specs.Ty.Types.{end, member}
use Rattle.gv_model.specs.Layout.{alignment, fixed_size, round_up}
use Rattle.gv_model.specs.Children.{Child, children_at, is_out, nowhere, ordered}
use Rattle.gv_model.specs.Tuples.{member_spans, empty_spans, member_end, end_of, span, next_offset}
use Rattle.gv_model.proofs.ListLaws.{nil_no_cons}
use Rattle.gv_layout.specs.Places.{clamp, end_by}
use Rattle.gv_layout.proofs.Alike.{child}
use Rattle.gv_layout.proofs.InOrder.{in_bounds, out_alike, same_within, kept, dropped, as_many, end_like, no_end}

pub nowhere_members : (n w k : ℕ) (b : List ℕ) (p : Option ℕ) (ts : Types) → children_at n (map nowhere (member_spans w b k p ts)) ≡ children_at n (empty_spans ts)
unfolding member_spans empty_spans
nowhere_members n w k b p end = refl
nowhere_members n w k b p (member t ts) = ap (λ cs. child t 0 0 ∷ cs) (nowhere_members n w (next_offset k (fixed_size t)) b (end_of w b k p t ts) ts)

-- none that follows is known to lie anywhere
pub unplaced : (n w k : ℕ) (b : List ℕ) (e : Option ℕ) (ts : Types) → children_at n (ordered e (member_spans w b k None ts)) ≡ children_at n (empty_spans ts)
unfolding ordered member_spans empty_spans
unplaced n w k b e end = refl
unplaced n w k b e (member t ts) = ap (λ cs. child t 0 0 ∷ cs) (unplaced n w (next_offset k (fixed_size t)) b e ts)

empty_alike : (n : ℕ) (ts : Types) → children_at n (empty_spans ts) ≡ children_at 0 (empty_spans ts)
unfolding empty_spans
empty_alike n end = refl
empty_alike n (member t ts) = ap (λ cs. child t 0 0 ∷ cs) (empty_alike n ts)

pub unplaced_members : (n w k m : ℕ) (b : List ℕ) (p : Option ℕ) (ts : Types) → None ≡ p → children_at n (ordered (Some m) (member_spans w b k p ts)) ≡ children_at 0 (empty_spans ts)
unplaced_members n w k m b p ts e = rw (sym e) (unplaced n w k b (Some m) ts ∙ empty_alike n ts)

pub empty_stay : (n : ℕ) (e : Option ℕ) (ts : Types) → children_at n (ordered e (empty_spans ts)) ≡ children_at n (empty_spans ts)
unfolding ordered empty_spans
empty_stay n e end = refl
empty_stay n e (member t ts) = ap (λ cs. child t 0 0 ∷ cs) (empty_stay n e ts)

-- where the offsets are too many, every member that has an end is out of order
pub no_body : (n w k p : ℕ) (b : List ℕ) (ts : Types) → children_at n (ordered None (member_spans w b k (Some p) ts)) ≡ children_at n (empty_spans ts)
unfolding ordered member_spans empty_spans
no_body n w k p b end = refl
no_body n w k p b (member t ts) = go (end_of w b k (Some p) t ts)
  where
    go : (o : Option ℕ) → children_at n (ordered None ((t, span (Some (round_up (alignment t) p)) o) ∷ member_spans w b (next_offset k (fixed_size t)) o ts)) ≡ child t 0 0 ∷ children_at n (empty_spans ts)
    go None = ap (λ cs. child t 0 0 ∷ cs) (unplaced n w (next_offset k (fixed_size t)) b None ts)
    go (Some e) = ap (λ cs. child t 0 0 ∷ cs) (nowhere_members n w (next_offset k (fixed_size t)) b (Some e) ts)

alike_ends : (n w k s r : ℕ) (b : List ℕ) (size : Option ℕ) (ts : Types) → clamp n s ≡ clamp n r
    → option_map (clamp n) (member_end w b k s size ts) ≡ option_map (clamp n) (member_end w b k r size ts)
alike_ends n w k s r b (Some size) ts e = ap Some (omega arith)
alike_ends n w k s r b None end e = refl
alike_ends n w k s r b None (member t ts) e = refl

-- the children of members, of which the first begins there and has that end, if any
abbrev from_there : ℕ → ℕ → ℕ → ℕ → List ℕ → Ty → Types → ℕ → Option ℕ → List Child
from_there n m w k b t ts s e = children_at n (ordered (Some m) ((t, span (Some s) e) ∷ member_spans w b (next_offset k (fixed_size t)) e ts))

open_first : (n m w k p : ℕ) (b : List ℕ) (t : Ty) (ts : Types)
    → children_at n (ordered (Some m) (member_spans w b k (Some p) (member t ts)))
    ≡ from_there n m w k b t ts (round_up (alignment t) p) (member_end w b k (round_up (alignment t) p) (fixed_size t) ts)
unfolding member_spans
open_first n m w k p b t ts = refl

pub known_first : (n m w k used p s to : ℕ) (b : List ℕ) (t : Ty) (ts : Types) → m ≤ n
    → clamp n s ≡ clamp n (round_up (alignment t) p)
    → Some (clamp n to) ≡ option_map (clamp n) (member_end w b k s (fixed_size t) ts)
    → (ts ≡ end) ⊎ (used ≡ next_offset k (fixed_size t))
    → is_out (Some m) (Some (s, to)) ≡ false
    → children_at n (ordered (Some m) (member_spans w b k (Some p) (member t ts))) ≡ child t s to ∷ children_at n (ordered (Some m) (member_spans w b used (Some to) ts))
unfolding member_spans
known_first n m w k used p s to b t ts within starts ends counted fine =
    let start = round_up (alignment t) p in
    let found = end_like n to (member_end w b k start (fixed_size t) ts) (ends ∙ alike_ends n w k s start b (fixed_size t) ts starts) in
    let inside = in_bounds m s to fine in
    let from : start ≡ s = same_within n m s start within (omega (arith, inside.0, inside.1)) starts in
    let till : member_end w b k start (fixed_size t) ts ≡ Some to = found.1 ∙ ap Some (same_within n m to found.0 within inside.1 found.2) in
    open_first n m w k p b t ts
    ∙ (ap₂ (from_there n m w k b t ts) from till
    ∙ (kept n m t s to (member_spans w b (next_offset k (fixed_size t)) (Some to) ts) within fine ∙ ap (λ cs. child t s to ∷ cs) (go counted)))
  where
    go : (ts ≡ end) ⊎ (used ≡ next_offset k (fixed_size t)) → children_at n (ordered (Some m) (member_spans w b (next_offset k (fixed_size t)) (Some to) ts)) ≡ children_at n (ordered (Some m) (member_spans w b used (Some to) ts))
    go (inl e) = rw e refl
    go (inr e) = rw e refl

pub out_first : (n m w k p s to : ℕ) (b : List ℕ) (t : Ty) (ts : Types) → m ≤ n
    → clamp n s ≡ clamp n (round_up (alignment t) p)
    → Some (clamp n to) ≡ option_map (clamp n) (member_end w b k s (fixed_size t) ts)
    → is_out (Some m) (Some (s, to)) ≡ true
    → children_at n (ordered (Some m) (member_spans w b k (Some p) (member t ts))) ≡ child t 0 0 ∷ children_at n (ordered (Some m) (member_spans w b k None ts))
out_first n m w k p s to b t ts within starts ends out =
    let start = round_up (alignment t) p in
    let found = end_like n to (member_end w b k start (fixed_size t) ts) (ends ∙ alike_ends n w k s start b (fixed_size t) ts starts) in
    open_first n m w k p b t ts
    ∙ (ap (from_there n m w k b t ts start) found.1
    ∙ (dropped n m t start found.0 (member_spans w b (next_offset k (fixed_size t)) (Some found.0) ts) (out_alike n m s start to found.0 within starts found.2 out)
    ∙ ap (λ cs. child t 0 0 ∷ cs) (nowhere_members n w (next_offset k (fixed_size t)) b (Some found.0) ts ∙ sym (unplaced n w k b (Some m) ts))))

pub unknown_first : (n m w k p s : ℕ) (b : List ℕ) (t : Ty) (ts : Types)
    → clamp n s ≡ clamp n (round_up (alignment t) p)
    → None ≡ option_map (clamp n) (member_end w b k s (fixed_size t) ts)
    → children_at n (ordered (Some m) (member_spans w b k (Some p) (member t ts))) ≡ child t 0 0 ∷ children_at n (ordered (Some m) (member_spans w b k None ts))
unfolding ordered
unknown_first n m w k p s b t ts starts ends =
    let start = round_up (alignment t) p in
    let none = no_end n (member_end w b k start (fixed_size t) ts) (ends ∙ alike_ends n w k s start b (fixed_size t) ts starts) in
    open_first n m w k p b t ts
    ∙ (ap (from_there n m w k b t ts start) none
    ∙ ap (λ cs. child t 0 0 ∷ cs) (unplaced n w (next_offset k (fixed_size t)) b (Some m) ts ∙ sym (unplaced n w k b (Some m) ts)))

pub unplaced_first : (n m w k : ℕ) (b : List ℕ) (t : Ty) (ts : Types)
    → children_at n (ordered (Some m) (member_spans w b k None (member t ts))) ≡ child t 0 0 ∷ children_at n (ordered (Some m) (member_spans w b k None ts))
unfolding ordered member_spans
unplaced_first n m w k b t ts =
    ap (λ cs. child t 0 0 ∷ cs) (unplaced n w (next_offset k (fixed_size t)) b (Some m) ts ∙ sym (unplaced n w k b (Some m) ts))

-- ---- the next member of a walk, after which come xs

abbrev pub walked : ℕ → ℕ → ℕ → ℕ → List ℕ → Option ℕ → List Ty → List Child
walked n m w k b p ys = children_at n (ordered (Some m) (member_spans w b k p (types_from ys)))

pub none_next : (n m w k : ℕ) (b : List ℕ) (p : Option ℕ) (ys : List Ty) → ys ≡ [] → walked n m w k b p ys ≡ []
unfolding ordered member_spans
none_next n m w k b p ys e = ap (walked n m w k b p) e

pub unplaced_next : (n m w k : ℕ) (b : List ℕ) (p : Option ℕ) (t : Ty) (xs ys : List Ty) (place : Child) → ys ≡ t ∷ xs → p ≡ None → place ≡ child t 0 0
    → walked n m w k b p ys ≡ place ∷ walked n m w k b None xs
unplaced_next n m w k b p t xs ys place e h is_place =
    ap₂ (walked n m w k b) h e ∙ (unplaced_first n m w k b t (types_from xs) ∙ ap (λ c. c ∷ walked n m w k b None xs) (sym is_place))

pub unknown_next : (n m w k p s : ℕ) (b : List ℕ) (o : Option ℕ) (t : Ty) (xs ys : List Ty) (place : Child) → ys ≡ t ∷ xs → o ≡ Some p
    → clamp n s ≡ clamp n (round_up (alignment t) p)
    → None ≡ option_map (clamp n) (member_end w b k s (fixed_size t) (types_from xs))
    → place ≡ child t 0 0
    → walked n m w k b o ys ≡ place ∷ walked n m w k b None xs
unknown_next n m w k p s b o t xs ys place e h starts ends is_place =
    ap₂ (walked n m w k b) h e ∙ (unknown_first n m w k p s b t (types_from xs) starts ends ∙ ap (λ c. c ∷ walked n m w k b None xs) (sym is_place))

pub out_next : (n m w k p s to : ℕ) (b : List ℕ) (o : Option ℕ) (t : Ty) (xs ys : List Ty) (place : Child) → m ≤ n → ys ≡ t ∷ xs → o ≡ Some p
    → clamp n s ≡ clamp n (round_up (alignment t) p)
    → Some (clamp n to) ≡ option_map (clamp n) (member_end w b k s (fixed_size t) (types_from xs))
    → true ≡ is_out (Some m) (Some (s, to)) → place ≡ child t 0 0
    → walked n m w k b o ys ≡ place ∷ walked n m w k b None xs
out_next n m w k p s to b o t xs ys place within e h starts ends out is_place =
    ap₂ (walked n m w k b) h e ∙ (out_first n m w k p s to b t (types_from xs) within starts ends (sym out) ∙ ap (λ c. c ∷ walked n m w k b None xs) (sym is_place))

pub known_next : (n m w k used p s to : ℕ) (b : List ℕ) (o : Option ℕ) (t : Ty) (xs ys : List Ty) (place : Child) → m ≤ n → ys ≡ t ∷ xs → o ≡ Some p
    → clamp n s ≡ clamp n (round_up (alignment t) p)
    → Some (clamp n to) ≡ option_map (clamp n) (member_end w b k s (fixed_size t) (types_from xs))
    → (types_from xs ≡ end) ⊎ (used ≡ next_offset k (fixed_size t))
    → false ≡ is_out (Some m) (Some (s, to)) → place ≡ child t s to
    → walked n m w k b o ys ≡ place ∷ walked n m w used b (Some to) xs
known_next n m w k used p s to b o t xs ys place within e h starts ends counted fine is_place =
    ap₂ (walked n m w k b) h e
    ∙ (known_first n m w k used p s to b t (types_from xs) within starts ends counted (sym fine) ∙ ap (λ c. c ∷ walked n m w used b (Some to) xs) (sym is_place))

-- a member is the last one if none is left after it
pub no_more : (last : Bool) (xs : List Ty) → IsTrue last ↔ (xs ≡ []) → IsTrue last → types_from xs ≡ end
no_more last xs h l = ap types_from (h.0 l)

pub end_by-member_end : (last : Bool) (xs : List Ty) → IsTrue last ↔ (xs ≡ [])
    → (w k s : ℕ) (b : List ℕ) (size : Option ℕ) → end_by w b k s size last ≡ member_end w b k s size (types_from xs)
end_by-member_end last xs h w k s b (Some size) = refl
end_by-member_end true [] h w k s b None = refl
end_by-member_end true (x ∷ xs) h w k s b None = absurd (nil_no_cons (sym (h.0 refl)))
end_by-member_end false [] h w k s b None = absurd (false≢true (h.1 refl))
end_by-member_end false (x ∷ xs) h w k s b None = refl

pub counted : (last : Bool) (xs : List Ty) (k used : ℕ) (found size : Option ℕ) → IsTrue last ↔ (xs ≡ []) → found ≡ size
    → IsTrue last ⊎ (used ≡ next_offset k found) → (types_from xs ≡ end) ⊎ (used ≡ next_offset k size)
counted last xs k used found size h same (inl l) = inl (no_more last xs h l)
counted last xs k used found size h same (inr u) = inr (u ∙ ap (next_offset k) same)

spans-length : (n w k : ℕ) (b : List ℕ) (p : Option ℕ) (xs : List Ty) → length (children_at n (member_spans w b k p (types_from xs))) ≡ length xs
unfolding member_spans
spans-length n w k b p [] = refl
spans-length n w k b p (t ∷ xs) = ap suc (spans-length n w (next_offset k (fixed_size t)) b _ xs)

pub members-length : (n m w k : ℕ) (b : List ℕ) (p : Option ℕ) (xs : List Ty) → length (walked n m w k b p xs) ≡ length xs
members-length n m w k b p xs = as_many n (Some m) (member_spans w b k p (types_from xs)) ∙ spans-length n w k b p xs

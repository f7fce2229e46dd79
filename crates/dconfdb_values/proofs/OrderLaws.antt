-- The elements of an array by framing offsets, and which of them are in order.
use Rattle.std.proofs.Common.{◌≡◌, ℕ, zero, suc, ◌+◌, ◌-◌, ◌*◌, ◌/◌, ◌%◌, ◌<◌, ◌≤◌, Bool, true, false, cond, ◌==◌, nat_le, map, List, [], ◌∷◌, length, take, drop, Option, Some, None, refl, sym, ap, ap₂, ◌∙◌, arith, eq-eqb, ne_eqb}
use Rattle.std.specs.Prelude.{slice_get, option_map, slice_range}
use Rattle.std.proofs.lemmas.Option.{none-some, same_Some, slice_get-map}
use Rattle.std.proofs.lemmas.List.{drop-drop, take_rest}
use Rattle.gv_model.specs.Ty.{Ty}
use Rattle.gv_model.specs.Ty.Ty.{array}
use Rattle.gv_model.specs.Layout.{alignment, fixed_size, offset_width, round_up}
use Rattle.gv_model.specs.BasicValue.{number_in}
use Rattle.gv_model.specs.Arrays.{element_spans, elements_end, framed_from, numbers_in, offset_spans}
use Rattle.gv_model.specs.Children.{Span, is_out, nowhere, ordered}
use Rattle.gv_model.specs.Decode.{body, spans}
use Rattle.gv_layout.proofs.InOrder.{in_bounds}
use Rattle.dconfdb_values.specs.Order.{in_order}
use Rattle.dconfdb_values.specs.OpenArrays.{end_before}

-- ---- children in order, and from the first on that isn't

pub placed : (m : Option ℕ) (cs : List (Ty × Span)) (i : ℕ) → i < in_order m cs → slice_get (ordered m cs) i ≡ slice_get cs i
unfolding in_order ordered
placed m [] i lt = refl
placed m (c ∷ cs) i lt = go (is_out m c.1) i (placed m cs) lt
  where
    go : (o : Bool) (j : ℕ) → ((k : ℕ) → k < in_order m cs → slice_get (ordered m cs) k ≡ slice_get cs k)
        → j < cond o 0 (suc (in_order m cs)) → slice_get (cond o (map nowhere (c ∷ cs)) (c ∷ ordered m cs)) j ≡ slice_get (c ∷ cs) j
    go true j rest h = absurd (omega (arith, h))
    go false zero rest h = refl
    go false (suc k) rest h = rest k (omega (arith, h))

pub unplaced : (m : Option ℕ) (cs : List (Ty × Span)) (i : ℕ) → in_order m cs ≤ i → slice_get (ordered m cs) i ≡ option_map nowhere (slice_get cs i)
unfolding in_order ordered
unplaced m [] i le = refl
unplaced m (c ∷ cs) i le = go (is_out m c.1) i (unplaced m cs) le
  where
    go : (o : Bool) (j : ℕ) → ((k : ℕ) → in_order m cs ≤ k → slice_get (ordered m cs) k ≡ option_map nowhere (slice_get cs k))
        → cond o 0 (suc (in_order m cs)) ≤ j → slice_get (cond o (map nowhere (c ∷ cs)) (c ∷ ordered m cs)) j ≡ option_map nowhere (slice_get (c ∷ cs) j)
    go true j rest h = slice_get-map nowhere (c ∷ cs) j
    go false zero rest h = absurd (omega (arith, h))
    go false (suc k) rest h = rest k (omega (arith, h))

-- one more of them is in order
pub one_more : (m : Option ℕ) (cs : List (Ty × Span)) (c : Ty × Span) (k : ℕ) → k ≤ in_order m cs → slice_get cs k ≡ Some c → is_out m c.1 ≡ false → suc k ≤ in_order m cs
unfolding in_order
one_more m [] c k le at fine = absurd (none-some c at)
one_more m (d ∷ cs) c zero le at fine =
    let within : is_out m d.1 ≡ false = ap (λ (x : Ty × Span). is_out m x.1) (same_Some d c at) ∙ fine in
    rw within (omega arith)
one_more m (d ∷ cs) c (suc j) le at fine = go (is_out m d.1) (λ h. one_more m cs c j h at fine) le
  where
    go : (o : Bool) → (j ≤ in_order m cs → suc j ≤ in_order m cs) → suc j ≤ cond o 0 (suc (in_order m cs)) → suc (suc j) ≤ cond o 0 (suc (in_order m cs))
    go true rest h = absurd (omega (arith, h))
    go false rest h = let more = rest (omega (arith, h)) in omega (arith, more)

-- no more of them are
pub no_more : (m : Option ℕ) (cs : List (Ty × Span)) (c : Ty × Span) (k : ℕ) → slice_get cs k ≡ Some c → is_out m c.1 ≡ true → in_order m cs ≤ k
unfolding in_order
no_more m [] c k at out = absurd (none-some c at)
no_more m (d ∷ cs) c zero at out =
    let first : is_out m d.1 ≡ true = ap (λ (x : Ty × Span). is_out m x.1) (same_Some d c at) ∙ out in
    rw first (omega arith)
no_more m (d ∷ cs) c (suc j) at out = go (is_out m d.1) (no_more m cs c j at out)
  where
    go : (o : Bool) → in_order m cs ≤ j → cond o 0 (suc (in_order m cs)) ≤ suc j
    go true rest = omega arith
    go false rest = omega (arith, rest)

-- ---- elements by framing offsets

pub end_after : (p : ℕ) (ends : List ℕ) (k e : ℕ) → slice_get ends k ≡ Some e → end_before p ends (suc k) ≡ e
unfolding end_before
end_after p [] k e h = absurd (none-some e h)
end_after p (d ∷ ends) zero e h = same_Some d e h
end_after p (d ∷ ends) (suc k) e h = end_after d ends k e h

pub before_first : (ends : List ℕ) (k : ℕ) → k ≡ 0 → end_before 0 ends k ≡ 0
unfolding end_before
before_first ends k e = ap (end_before 0 ends) e

pub before_next : (ends : List ℕ) (k e : ℕ) → (k ≡ 0 → ⊥) → slice_get ends (k - 1) ≡ Some e → end_before 0 ends k ≡ e
before_next ends k e some h = let one : suc (k - 1) ≡ k = omega (arith, some) in ap (end_before 0 ends) (sym one) ∙ end_after 0 ends (k - 1) e h

pub span_at : (t : Ty) (p : ℕ) (ends : List ℕ) (k e : ℕ) → slice_get ends k ≡ Some e
    → slice_get (offset_spans t p ends) k ≡ Some (t, Some (round_up (alignment t) (end_before p ends k), e))
unfolding offset_spans end_before
span_at t p [] k e h = absurd (none-some e h)
span_at t p (d ∷ ends) zero e h = ap (λ x. Some (t, Some (round_up (alignment t) p, x))) (same_Some d e h)
span_at t p (d ∷ ends) (suc k) e h = span_at t d ends k e h

-- one in order ends within the body
pub end_within : (t : Ty) (m p : ℕ) (ends : List ℕ) (k : ℕ) → p ≤ m → k ≤ in_order (Some m) (offset_spans t p ends) → end_before p ends k ≤ m
unfolding in_order offset_spans end_before
end_within t m p ends zero le h = le
end_within t m p [] (suc k) le h = le
end_within t m p (e ∷ ends) (suc k) le h =
    go (is_out (Some m) (Some (round_up (alignment t) p, e))) refl (end_within t m e ends k) h
  where
    go : (o : Bool) → is_out (Some m) (Some (round_up (alignment t) p, e)) ≡ o
        → (e ≤ m → k ≤ in_order (Some m) (offset_spans t e ends) → end_before e ends k ≤ m)
        → suc k ≤ cond o 0 (suc (in_order (Some m) (offset_spans t e ends))) → end_before e ends k ≤ m
    go true is rest g = absurd (omega (arith, g))
    go false is rest g = rest (in_bounds m (round_up (alignment t) p) e is).1 (omega (arith, g))

pub number_at : (w n : ℕ) (b : List ℕ) (k : ℕ) → k < n → slice_get (numbers_in w n b) k ≡ Some (number_in (take w (drop (w * k) b)))
unfolding numbers_in
number_at w zero b k lt = absurd (omega (arith, lt))
number_at w (suc n) b zero lt = let z : w * 0 ≡ 0 = omega arith in rw z refl
number_at w (suc n) b (suc k) lt =
    let on : w + w * k ≡ w * suc k = omega arith in
    number_at w n (drop w b) k (omega (arith, lt)) ∙ ap (λ xs. Some (number_in (take w xs))) (drop-drop (w * k) w b ∙ ap (λ x. drop x b) on)

-- an array's elements, where the last framing offset is one
pub framed : (t : Ty) (b : List ℕ) (w e : ℕ) → w ≡ offset_width (length b) → e ≡ number_in (slice_range b (length b - w) (length b)) → 0 < length b
    → e ≤ length b → (length b - e) % w ≡ 0
    → element_spans t b None ≡ offset_spans t 0 (numbers_in w ((length b - e) / w) (slice_range b e (length b)))
framed t b w e is_width is_begin some within whole =
    let none : (length b == 0) ≡ false = ne_eqb (length b) 0 (λ z. omega arith) in
    let first : nat_le e (length b) ≡ true = grind arith in
    let second : ((length b - e) % w == 0) ≡ true = eq-eqb ((length b - e) % w) 0 whole in
    let begin : number_in (drop (length b - offset_width (length b)) b) ≡ e =
    ap (λ x. number_in (drop (length b - x) b)) (sym is_width) ∙ sym (is_begin ∙ ap number_in (take_rest b (length b - w))) in
    let all : framed_from t w e b ≡ offset_spans t 0 (numbers_in w ((length b - e) / w) (drop e b)) = rw (first, second) refl in
    ap (λ c. cond c [] (framed_from t (offset_width (length b)) (number_in (drop (length b - offset_width (length b)) b)) b)) none
    ∙ (ap₂ (λ x y. framed_from t x y b) (sym is_width) begin
    ∙ (all ∙ ap (λ x. offset_spans t 0 (numbers_in w ((length b - e) / w) x)) (sym (take_rest b e))))

pub array_body : (t u : Ty) (b : List ℕ) → t ≡ array u → fixed_size u ≡ None → body t b ≡ Some (elements_end b None)
array_body t u b e h = ap (λ s. body s b) e ∙ ap (λ p. Some (elements_end b p)) h

pub array_spans : (t u : Ty) (b : List ℕ) → t ≡ array u → fixed_size u ≡ None → spans t b ≡ element_spans u b None
unfolding spans
array_spans t u b e h = ap (λ s. spans s b) e ∙ ap (λ p. element_spans u b p) h

-- ---- whether a span is in order

pub is_within : (m s e : ℕ) → s ≤ e → e ≤ m → is_out (Some m) (Some (s, e)) ≡ false
is_within m s e h g =
    let first : nat_le s e ≡ true = grind arith in
    let second : nat_le e m ≡ true = grind arith in
    rw (first, second) refl

pub is_past : (m s e : ℕ) → (s ≤ e → e ≤ m → ⊥) → is_out (Some m) (Some (s, e)) ≡ true
is_past m s e f = go (is_out (Some m) (Some (s, e))) refl
  where
    go : (c : Bool) → is_out (Some m) (Some (s, e)) ≡ c → c ≡ true
    go true h = refl
    go false h = let within = in_bounds m s e h in absurd (f within.0 within.1)

-- ---- how many there are

pub in_order_within : (m : Option ℕ) (cs : List (Ty × Span)) → in_order m cs ≤ length cs
unfolding in_order
in_order_within m [] = omega arith
in_order_within m (c ∷ cs) = go (is_out m c.1) (in_order_within m cs)
  where
    go : (o : Bool) → in_order m cs ≤ length cs → cond o 0 (suc (in_order m cs)) ≤ suc (length cs)
    go true h = omega arith
    go false h = omega (arith, h)

pub as_many : (t : Ty) (p w n : ℕ) (b : List ℕ) → length (offset_spans t p (numbers_in w n b)) ≡ n
unfolding offset_spans numbers_in
as_many t p w zero b = refl
as_many t p w (suc n) b = ap suc (as_many t (number_in (take w b)) w n (drop w b))

-- What a container is cut into, by what the code finds out of it.
use Rattle.std.proofs.Common.{◌≡◌, ◌⊎◌, inl, inr, ℕ, ◌-◌, ◌*◌, ◌/◌, ◌%◌, ◌<◌, ◌≤◌, Bool, true, false, cond, ◌==◌, nat_le, ◌&&◌, List, [], ◌∷◌, length, drop, Option, Some, None, refl, sym, ap, ap₂, ◌∙◌, arith, eq-eqb, ne_eqb, eqb-true}
use Rattle.std.specs.Prelude.{option_map, slice_range}
use Rattle.std.proofs.lemmas.Option.{none-some, same_Some}
use Rattle.std.proofs.lemmas.List.{take_rest}
use Rattle.gv_model.specs.Ty.{Ty, type_list, members, types_from}
use Rattle.gv_model.specs.Ty.Ty.{basic, variant, array, maybe, tuple, entry}
use Rattle.gv_model.specs.Layout.{fixed_size, offset_width}
use Rattle.gv_model.specs.BasicValue.{number_in}
use Rattle.gv_model.specs.Children.{Child, children_at, ordered}
use Rattle.gv_model.specs.Arrays.{element_spans, elements_end, framed_from, offset_spans, numbers_in, fixed_spans}
use Rattle.gv_model.specs.Maybes.{just_span}
use Rattle.gv_model.specs.Tuples.{tuple_spans, is_other_size, member_spans, empty_spans, members_end, offset_count}
use Rattle.gv_model.specs.Variants.{variant_span, at_last_zero}
use Rattle.gv_model.specs.Decode.{cut, spans}
use Rattle.gv_model.proofs.ListLaws.{types_from-listed}
use Rattle.gv_types.specs.declared.class.BasicType.{BasicType}
use Rattle.gv_types.specs.declared.class.Class.{Class}
use Rattle.gv_types.specs.declared.class.Class.TheVariants as classes
use Rattle.gv_types.specs.Classes.{class_of}
use Rattle.gv_types.specs.TypeStr.{element_of}
use Rattle.gv_layout.specs.Bodies.{placed_body}
use Rattle.gv_types.proofs.ClassLaws.{basic_class, variant_class}
use Rattle.gv_model.proofs.EmptyLaws.{elements-nil, fixed_size_pos, just-nil}
use Rattle.gv_model.proofs.PlacedParts.{ordered-nil}
use Rattle.gv_model.proofs.InOrder.{just_stay}
use Rattle.gv_layout.proofs.InOrder.{as_many, fixed_stay}
use Rattle.gv_layout.proofs.MemberLaws.{walked, unplaced, empty_stay, no_body}

-- ---- arrays

pub even_array : (t : Ty) (b : List ℕ) (size left : ℕ)
    → ((length b % size ≡ 0) × (left ≡ length b / size)) ⊎ ((length b % size ≡ 0 → ⊥) × (left ≡ 0))
    → children_at (length b) (fixed_spans t size 0 left) ≡ children_at (length b) (element_spans t b (Some size))
unfolding fixed_spans
even_array t b size left (inl h) =
    let whole : (length b % size == 0) ≡ true = eq-eqb (length b % size) 0 h.0 in rw (whole, h.1) refl
even_array t b size left (inr h) =
    let part : (length b % size == 0) ≡ false = ne_eqb (length b % size) 0 h.0 in rw (part, h.1) refl

by_offsets : (t : Ty) (b : List ℕ) (w e : ℕ) → w ≡ offset_width (length b) → e ≡ number_in (drop (length b - w) b) → (length b ≡ 0 → ⊥)
    → element_spans t b None ≡ framed_from t w e b
by_offsets t b w e is_width is_begin some =
    let nonzero : (length b == 0) ≡ false = ne_eqb (length b) 0 some in
    let begin : number_in (drop (length b - offset_width (length b)) b) ≡ e = ap (λ x. number_in (drop (length b - x) b)) (sym is_width) ∙ sym is_begin in
    ap (λ c. cond c [] (framed_from t (offset_width (length b)) (number_in (drop (length b - offset_width (length b)) b)) b)) nonzero
    ∙ ap₂ (λ x y. framed_from t x y b) (sym is_width) begin

pub framed_array : (t : Ty) (b : List ℕ) (w e : ℕ) → w ≡ offset_width (length b)
    → e ≡ number_in (slice_range b (length b - w) (length b)) → 0 < w → w ≤ length b → e ≤ length b → (length b - e) % w ≡ 0
    → children_at (length b) (ordered (Some e) (offset_spans t 0 (numbers_in w ((length b - e) / w) (slice_range b e (length b)))))
    ≡ children_at (length b) (ordered (Some (elements_end b None)) (element_spans t b None))
framed_array t b w e is_width is_begin pos within whole fixed =
    let first : nat_le e (length b) ≡ true = grind arith in
    let second : ((length b - e) % w == 0) ≡ true = eq-eqb ((length b - e) % w) 0 fixed in
    let begin : e ≡ number_in (drop (length b - w) b) = is_begin ∙ ap number_in (take_rest b (length b - w)) in
    let all : framed_from t w e b ≡ offset_spans t 0 (numbers_in w ((length b - e) / w) (drop e b)) = rw (first, second) refl in
    ap₂ (λ x xs. children_at (length b) (ordered (Some x) xs)) (begin ∙ ap (λ x. number_in (drop (length b - x) b)) is_width)
    (ap (λ x. offset_spans t 0 (numbers_in w ((length b - e) / w) x)) (take_rest b e) ∙ (sym all ∙ sym (by_offsets t b w e is_width begin (λ z. omega arith))))

pub no_array : (t : Ty) (b : List ℕ) (w e : ℕ) → w ≡ offset_width (length b)
    → e ≡ number_in (slice_range b (length b - w) (length b)) → (0 < length b → 0 < w)
    → (0 < w → e ≤ length b → (length b - e) % w ≡ 0 → ⊥)
    → [] ≡ children_at (length b) (ordered (Some (elements_end b None)) (element_spans t b None))
no_array t b w e is_width is_begin some never =
    ap (children_at (length b)) (sym (ordered-nil (Some (elements_end b None))) ∙ ap (ordered (Some (elements_end b None))) (go (length b == 0) refl))
  where
    inner : (c d : Bool) → nat_le e (length b) ≡ c → ((length b - e) % w == 0) ≡ d → 0 < w
        → cond (c && d) (offset_spans t 0 (numbers_in w ((length b - e) / w) (drop e b))) [] ≡ []
    inner true true f g pos = absurd (never pos (grind arith) (eqb-true ((length b - e) % w) 0 g))
    inner true false f g pos = refl
    inner false d f g pos = refl

    go : (z : Bool) → (length b == 0) ≡ z → [] ≡ element_spans t b None
    go true f = ap (λ c. cond c [] (framed_from t (offset_width (length b)) (number_in (drop (length b - offset_width (length b)) b)) b)) (sym f)
    go false f =
        let pos : 0 < length b = grind arith in
        let begin : e ≡ number_in (drop (length b - w) b) = is_begin ∙ ap number_in (take_rest b (length b - w)) in
        sym (by_offsets t b w e is_width begin (λ z. omega arith) ∙ inner (nat_le e (length b)) ((length b - e) % w == 0) refl refl (some pos))

-- ---- maybes

pub nothing : (t : Ty) (n : ℕ) (o : Option ℕ) → o ≡ fixed_size t → ((size : ℕ) → o ≡ Some size → size ≡ n → ⊥) → (o ≡ None → 0 < n → ⊥)
    → [] ≡ children_at n (just_span t n (fixed_size t))
nothing t n None e h g =
    let z : n ≡ 0 = zero_or n (g refl) in
    let same : (n == 0) ≡ true = eq-eqb n 0 z in
    ap (λ c. children_at n (cond c [] ((t, Some (0, n - 1)) ∷ []))) (sym same) ∙ ap (λ o. children_at n (just_span t n o)) e
  where
    zero_or : (m : ℕ) → (0 < m → ⊥) → m ≡ 0
    zero_or m k = omega arith
nothing t n (Some size) e h g =
    let other : (n == size) ≡ false = ne_eqb n size (λ z. h size refl (sym z)) in
    ap (λ c. children_at n (cond c ((t, Some (0, n)) ∷ []) [])) (sym other) ∙ ap (λ o. children_at n (just_span t n o)) e

-- ---- tuples and entries

abbrev CutMembers : Ty → List ℕ → List Child
CutMembers t b = children_at (length b) (ordered (members_end (fixed_size t) (members t) b) (tuple_spans t (members t) b))

pub tuple_placed : (t : Ty) (xs : List Ty) (b : List ℕ) (w m : ℕ) → w ≡ offset_width (length b) → xs ≡ type_list (members t) → Some m ≡ placed_body t b
    → walked (length b) m w 0 b (Some 0) xs ≡ CutMembers t b
tuple_placed t xs b w m is_width is_list h =
    let same : types_from xs ≡ members t = ap types_from is_list ∙ types_from-listed (members t) in
    ap₂ (λ v us. children_at (length b) (ordered (Some m) (member_spans v b 0 (Some 0) us))) is_width same
    ∙ go (is_other_size (fixed_size t) (length b)) h
  where
    go : (c : Bool) → Some m ≡ cond c None (members_end (fixed_size t) (members t) b)
        → children_at (length b) (ordered (Some m) (member_spans (offset_width (length b)) b 0 (Some 0) (members t)))
        ≡ children_at (length b) (ordered (members_end (fixed_size t) (members t) b) (cond c (empty_spans (members t)) (member_spans (offset_width (length b)) b 0 (Some 0) (members t))))
    go true e = absurd (none-some m (sym e))
    go false e = ap (λ o. children_at (length b) (ordered o (member_spans (offset_width (length b)) b 0 (Some 0) (members t)))) e

pub tuple_unplaced : (t : Ty) (xs : List Ty) (b : List ℕ) (w m : ℕ) → xs ≡ type_list (members t) → None ≡ placed_body t b
    → walked (length b) m w 0 b None xs ≡ CutMembers t b
tuple_unplaced t xs b w m is_list h =
    let same : types_from xs ≡ members t = ap types_from is_list ∙ types_from-listed (members t) in
    ap (λ us. children_at (length b) (ordered (Some m) (member_spans w b 0 None us))) same
    ∙ (unplaced (length b) w 0 b (Some m) (members t) ∙ go (is_other_size (fixed_size t) (length b)) h)
  where
    go : (c : Bool) → None ≡ cond c None (members_end (fixed_size t) (members t) b)
        → children_at (length b) (empty_spans (members t))
        ≡ children_at (length b) (ordered (members_end (fixed_size t) (members t) b) (cond c (empty_spans (members t)) (member_spans (offset_width (length b)) b 0 (Some 0) (members t))))
    go true e = sym (empty_stay (length b) (members_end (fixed_size t) (members t) b) (members t))
    go false e =
        sym (no_body (length b) (offset_width (length b)) 0 0 b (members t))
        ∙ ap (λ o. children_at (length b) (ordered o (member_spans (offset_width (length b)) b 0 (Some 0) (members t)))) e

pub body_within : (t : Ty) (b : List ℕ) (m : ℕ) → Some m ≡ placed_body t b → m ≤ length b
body_within t b m h = within (is_other_size (fixed_size t) (length b)) (fixed_size t) h
  where
    inside : (c : Bool) (k : ℕ) → Some m ≡ cond c (Some (length b - k)) None → m ≤ length b
    inside true k e = let same = same_Some m (length b - k) e in omega (arith, same)
    inside false k e = absurd (none-some m (sym e))

    sized : (o : Option ℕ) → Some m ≡ members_end o (members t) b → m ≤ length b
    sized (Some size) e = let same = same_Some m (length b) e in omega (arith, same)
    sized None e = inside (nat_le (offset_width (length b) * offset_count (members t)) (length b)) (offset_width (length b) * offset_count (members t)) e

    within : (c : Bool) (o : Option ℕ) → Some m ≡ cond c None (members_end o (members t) b) → m ≤ length b
    within true o e = absurd (none-some m (sym e))
    within false o e = sized o e

-- ---- by the class of a type

pub no_children : (t : Ty) (b : List ℕ) (k : Class) → k ≡ class_of t → ((x : BasicType) × (k ≡ classes.Basic x)) ⊎ (k ≡ classes.Variant) → (t ≡ variant → ⊥) → [] ≡ cut t b
unfolding cut spans ordered
no_children t b k e (inl x) other = ap (λ u. cut u b) (sym (basic_class t x.0 (sym x.1 ∙ e)))
no_children t b k e (inr x) other = absurd (other (variant_class t (sym x ∙ e)))

pub array_class : {X : Type 0} (f : X → Ty) (t : Ty) (k : Class) (o : Option X) (x : X) → k ≡ class_of t → k ≡ classes.Array → option_map f o ≡ element_of t → o ≡ Some x → t ≡ array (f x)
array_class f t k None x e c m h = absurd (none-some x h)
array_class f (array u) k (Some y) x e c m h = ap array (same_Some u (f y) (sym m) ∙ ap f (same_Some y x h))
array_class f (maybe u) k (Some y) x e c m h = absurd cc
array_class f _ k (Some y) x e c m h = absurd (none-some (f y) (sym m))

pub maybe_class : {X : Type 0} (f : X → Ty) (t : Ty) (k : Class) (o : Option X) (x : X) → k ≡ class_of t → k ≡ classes.Maybe → option_map f o ≡ element_of t → o ≡ Some x → t ≡ maybe (f x)
maybe_class f t k None x e c m h = absurd (none-some x h)
maybe_class f (maybe u) k (Some y) x e c m h = ap maybe (same_Some u (f y) (sym m) ∙ ap f (same_Some y x h))
maybe_class f (array u) k (Some y) x e c m h = absurd cc
maybe_class f _ k (Some y) x e c m h = absurd (none-some (f y) (sym m))

pub cut_elements : (t u : Ty) (b : List ℕ) → t ≡ array u → None ≡ fixed_size u
    → children_at (length b) (ordered (Some (elements_end b None)) (element_spans u b None)) ≡ cut t b
unfolding cut spans
cut_elements t u b e h = ap (λ p. children_at (length b) (ordered (Some (elements_end b p)) (element_spans u b p))) h ∙ ap (λ s. cut s b) (sym e)

pub cut_array : (t u : Ty) (b : List ℕ) (size : ℕ) → t ≡ array u → Some size ≡ fixed_size u → children_at (length b) (element_spans u b (Some size)) ≡ cut t b
unfolding cut spans
cut_array t u b size e h =
    ap (children_at (length b)) (sym (fixed_stay u b size (fixed_size_pos u size (sym h))))
    ∙ (ap (λ p. children_at (length b) (ordered (Some (elements_end b p)) (element_spans u b p))) h ∙ ap (λ s. cut s b) (sym e))

pub cut_maybe : (t u : Ty) (b : List ℕ) → t ≡ maybe u → children_at (length b) (just_span u (length b) (fixed_size u)) ≡ cut t b
unfolding cut spans
cut_maybe t u b e = ap (children_at (length b)) (sym (just_stay u (length b) (fixed_size u))) ∙ ap (λ s. cut s b) (sym e)

pub cut_members : (t : Ty) (b : List ℕ) (k : Class) → k ≡ class_of t → (k ≡ classes.Tuple) ⊎ (k ≡ classes.Entry) → CutMembers t b ≡ cut t b
unfolding cut spans
cut_members (tuple ts) b k e h = refl
cut_members (entry j u) b k e h = refl
cut_members (basic j) b k e (inr h) = absurd cc
cut_members variant b k e (inr h) = absurd cc
cut_members (array u) b k e (inr h) = absurd cc
cut_members (maybe u) b k e (inr h) = absurd cc
cut_members _ b k e (inl h) = absurd cc

pub one_of_variant : (t : Ty) (b : List ℕ) (k : Class) → k ≡ class_of t → k ≡ classes.Variant → 1 ≡ length (cut t b)
unfolding cut spans
one_of_variant t b k e h =
    sym (as_many (length b) (Some (length b)) (variant_span (at_last_zero b) ∷ [])) ∙ ap (λ u. length (cut u b)) (sym (variant_class t (sym h ∙ e)))

-- ---- no bytes

pub no_just : (t : Ty) (n : ℕ) → n ≡ 0 → [] ≡ children_at n (just_span t n (fixed_size t))
no_just t n e = sym (ap (children_at n) (ap (λ k. just_span t k (fixed_size t)) e ∙ just-nil t (fixed_size t) (fixed_size_pos t)))

pub no_elements : (t u : Ty) (b : List ℕ) → t ≡ array u → length b ≡ 0 → [] ≡ cut t b
unfolding cut spans ordered
no_elements t u [] e h =
    sym (ap (λ s. cut s []) e ∙ ap (λ xs. children_at 0 (ordered (Some (elements_end [] (fixed_size u))) xs)) (elements-nil u (fixed_size u)))
no_elements t u (c ∷ b) e h = absurd (omega (arith, h))

-- members without bytes have no offsets
no_offsets : (k : ℕ) → Some 0 ≡ cond (nat_le (0 * k) 0) (Some (0 - 0 * k)) None
no_offsets k = let z : 0 * k ≡ 0 = omega arith in rw z refl

pub body_of_none : (t : Ty) (b : List ℕ) (size : Option ℕ) → size ≡ fixed_size t → None ≡ size → length b ≡ 0 → Some 0 ≡ placed_body t b
unfolding offset_width
body_of_none t [] size e h g =
    let none : fixed_size t ≡ None = sym (h ∙ e) in
    rw none (no_offsets (offset_count (members t)))
body_of_none t (c ∷ b) size e h g = absurd (omega (arith, g))

-- The children of a container that was written lie in order, so that each is read by its own bounds.
use Rattle.std.proofs.Common.{ℕ, ◌+◌, ◌-◌, ◌/◌, ◌%◌, ◌≡◌, List, [], ◌∷◌, ◌++◌, length, Option, Some, None, refl, sym, ap, ap₂, ◌∙◌, subst, arith, Bool, true, false, cond, ◌==◌, length-append}
use Rattle.std.proofs.Math.Nat.{mul-mod_left, mul-div_cancel}
use Rattle.gv_model.specs.Ty.{Ty, Basic, Types, spelling, members}
use Rattle.gv_model.specs.Ty.Ty.{basic, variant, array, maybe, tuple, entry}
use Rattle.gv_model.specs.TypeText.{is_within_limits}
use Rattle.gv_model.specs.Layout.{fixed_size}
use Rattle.gv_model.specs.Tree.{Trees, type_of}
use Rattle.gv_model.specs.Tree.Trees.{none, first}
use Rattle.gv_model.specs.Typed.{MayHold}
use Rattle.gv_model.specs.Children.{Span, children_at, ordered}
use Rattle.gv_model.specs.Arrays.{element_spans, elements_end}
use Rattle.gv_model.specs.Maybes.{just_span}
use Rattle.gv_model.specs.Tuples.{tuple_spans, members_end}
use Rattle.gv_model.specs.Variants.{variant_span, typed_span, at_last_zero}
use Rattle.gv_model.specs.Decode.{cut, spans, body}
use Rattle.gv_model.specs.EarlierReading.{earlier_cut}
use Rattle.gv_model.specs.Parts.{Part}
use Rattle.gv_model.specs.Encode.{encode, encoded_parts, packed, array_bytes, tuple_bytes, joined_parts, zeros, framed, body_from, ends_from, end_after}
use Rattle.gv_model.proofs.TypeTextLaws.{type_of_text-spelling}
use Rattle.gv_model.proofs.EmptyLaws.{fixed_size_pos, elements-nil}
use Rattle.gv_model.proofs.PlacedParts.{OneType, framed-placed, length-body_from, ordered-nil, ordered-one, ordered-placed, ordered-fixed}
use Rattle.gv_model.proofs.FramedArrays.{framed_read, last_number, last_end, last_of}
use Rattle.gv_model.proofs.MemberLaws.{part_types, HaveSizes, open_tuple, open_body, fixed_tuple}
use Rattle.gv_model.proofs.ContainerParts.{Holds, nothing_framed, one_size, one_type, types-parts, tuple_holds, entry_holds, no_zero-spelling, at_zero}

-- in order up to there, they stay as they are
abbrev pub Stay : Option ℕ → List (Ty × Span) → Type 0
Stay e xs = ordered e xs ≡ xs

stay : (e f : Option ℕ) (xs ys : List (Ty × Span)) → e ≡ f → xs ≡ ys → Stay f ys → Stay e xs
stay e f xs ys h g k = ap₂ ordered h g ∙ (k ∙ sym g)

-- ---- arrays

abbrev ElementsStay : Ty → Option ℕ → List ℕ → Type 0
ElementsStay t f b = Stay (Some (elements_end b f)) (element_spans t b f)

framed_stay : (t : Ty) (xs : List Part) → OneType t xs → ElementsStay t None (framed (body_from 0 xs) (ends_from 0 xs))
unfolding ends_from
framed_stay t [] h = subst (ElementsStay t None) (sym nothing_framed) (stay (Some (elements_end [] None)) (Some (elements_end [] None)) (element_spans t [] None) [] refl (elements-nil t None) (ordered-nil (Some (elements_end [] None))))
framed_stay t (x ∷ xs) h =
    let front = body_from 0 (x ∷ xs) in
    let ends = ends_from (end_after 0 x) xs in
    let b = framed front (end_after 0 x ∷ ends) in
    let size : length front ≡ last_of (end_after 0 x) ends = (let n : 0 + length front ≡ length front = omega arith in sym n ∙ (length-body_from 0 (x ∷ xs) ∙ sym (last_end (end_after 0 x) xs))) in
    stay (Some (elements_end b None)) (Some (length front)) (element_spans t b None) _ (ap Some (last_number front (end_after 0 x) ends size))
    (framed_read t front (end_after 0 x) ends size ∙ framed-placed t 0 (x ∷ xs) h) (ordered-placed (length front) 0 (x ∷ xs) (omega (arith, length-body_from 0 (x ∷ xs))))

array_stay : (t : Ty) (xs : List Part) (f : Option ℕ) → fixed_size t ≡ f → OneType t xs → HaveSizes xs → ElementsStay t f (array_bytes xs f)
array_stay t xs None e h g = framed_stay t xs h
array_stay t xs (Some n) e h g =
    let b = joined_parts xs in
    let size = one_size n t xs e h g in
    let whole : (length b % n) ≡ 0 = ap (λ m. m % n) size ∙ mul-mod_left (length xs) n in
    let count : length b / n ≡ length xs = ap (λ m. m / n) size ∙ mul-div_cancel (length xs) (fixed_size_pos t n e) in
    rw (whole, count) (ordered-fixed (length b) t n 0 (length xs) (omega arith))

-- ---- maybes

pub just_stay : (t : Ty) (n : ℕ) (f : Option ℕ) → Stay (Some n) (just_span t n f)
just_stay t n (Some size) = go (n == size)
  where
    go : (c : Bool) → Stay (Some n) (cond c ((t, Some (0, n)) ∷ []) [])
    go true = ordered-one n t 0 n (omega arith) (omega arith)
    go false = ordered-nil (Some n)
just_stay t n None = go (n == 0)
  where
    go : (c : Bool) → Stay (Some n) (cond c [] ((t, Some (0, n - 1)) ∷ []))
    go true = ordered-nil (Some n)
    go false = ordered-one n t 0 (n - 1) (omega arith) (omega arith)

-- ---- tuples and entries

tuple_stay : (t : Ty) (xs : List Part) (f : Option ℕ) → fixed_size t ≡ f → HaveSizes xs → Holds t xs → Stay (members_end f (part_types xs) (tuple_bytes xs f)) (tuple_spans t (part_types xs) (tuple_bytes xs f))
tuple_stay t xs None e h g =
    stay _ (Some (length (body_from 0 xs))) _ _ (open_body xs) (open_tuple t xs h e) (ordered-placed (length (body_from 0 xs)) 0 xs (omega (arith, length-body_from 0 xs)))
tuple_stay t xs (Some n) e h g =
    let b = tuple_bytes xs (Some n) in
    stay (Some (length b)) (Some (length b)) _ _ refl (fixed_tuple t xs n h e (g n e))
    (ordered-placed (length b) 0 xs (omega (arith, length-body_from 0 xs, length-append (body_from 0 xs) (zeros (n - length (body_from 0 xs))))))

-- ---- variants

variant_stays : (t : Ty) (bs : List ℕ) → is_within_limits t (spelling t) ≡ true → Stay (Some (length (bs ++ 0 ∷ spelling t))) (variant_span (at_last_zero (bs ++ 0 ∷ spelling t)) ∷ [])
variant_stays t bs h =
    let b = bs ++ 0 ∷ spelling t in
    let read : variant_span (at_last_zero b) ≡ (t, Some (0, length bs)) = ap variant_span (at_zero bs (spelling t) (no_zero-spelling t)) ∙ ap (typed_span (length bs)) (type_of_text-spelling t h) in
    stay (Some (length b)) (Some (length b)) _ _ refl (ap (λ (s : Ty × Span). s ∷ []) read) (ordered-one (length b) t 0 (length bs) (omega arith) (omega (arith, length-append bs (0 ∷ spelling t))))

-- ---- by type

abbrev SpansStay : Ty → List ℕ → Type 0
SpansStay t b = Stay (body t b) (spans t b)

tuple_spans_stay : (ts : Types) (vs : Trees) → part_types (encoded_parts vs) ≡ ts → HaveSizes (encoded_parts vs) → SpansStay (tuple ts) (packed (tuple ts) (encoded_parts vs))
unfolding packed spans
tuple_spans_stay ts vs e g =
    let xs = encoded_parts vs in
    let b = tuple_bytes xs (fixed_size (tuple ts)) in
    subst (λ (us : Types). Stay (members_end (fixed_size (tuple ts)) us b) (tuple_spans (tuple ts) us b)) e (tuple_stay (tuple ts) xs (fixed_size (tuple ts)) refl g (tuple_holds ts xs e))

entry_spans_stay : (k : Basic) (t : Ty) (vs : Trees) → part_types (encoded_parts vs) ≡ members (entry k t) → HaveSizes (encoded_parts vs) → SpansStay (entry k t) (packed (entry k t) (encoded_parts vs))
unfolding packed spans
entry_spans_stay k t vs e g =
    let xs = encoded_parts vs in
    let b = tuple_bytes xs (fixed_size (entry k t)) in
    subst (λ (us : Types). Stay (members_end (fixed_size (entry k t)) us b) (tuple_spans (entry k t) us b)) e (tuple_stay (entry k t) xs (fixed_size (entry k t)) refl g (entry_holds k t xs e))

spans_stay : (t : Ty) (vs : Trees) → MayHold t vs → HaveSizes (encoded_parts vs) → SpansStay t (packed t (encoded_parts vs))
unfolding packed spans encoded_parts
spans_stay (basic k) vs h g = absurd h
spans_stay variant none h g = absurd h
spans_stay variant (first v none) h g = variant_stays (type_of v) (encode v) h
spans_stay variant (first v (first u vs)) h g = absurd h
spans_stay (array t) vs h g = array_stay t (encoded_parts vs) (fixed_size t) refl (one_type t vs h) g
spans_stay (maybe t) vs h g = just_stay t (length (packed (maybe t) (encoded_parts vs))) (fixed_size t)
spans_stay (tuple ts) vs h g = tuple_spans_stay ts vs (types-parts vs ∙ h) g
spans_stay (entry k t) vs h g = entry_spans_stay k t vs (types-parts vs ∙ h) g

pub cut_in_order : (t : Ty) (vs : Trees) → MayHold t vs → HaveSizes (encoded_parts vs) → cut t (packed t (encoded_parts vs)) ≡ earlier_cut t (packed t (encoded_parts vs))
unfolding cut earlier_cut
cut_in_order t vs h g = ap (children_at (length (packed t (encoded_parts vs)))) (spans_stay t vs h g)

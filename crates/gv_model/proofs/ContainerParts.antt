-- A container that was written is cut into its parts, each by its own bounds.
use Rattle.std.proofs.Common.{ℕ, ◌+◌, ◌-◌, ◌*◌, ◌/◌, ◌%◌, ◌<◌, ◌≤◌, ◌≡◌, max, map, List, [], ◌∷◌, ◌++◌, reverse, length, Option, Some, None, refl, sym, ap, ap₂, ◌∙◌, subst, arith, true, false, ◌==◌, eq-eqb, ne_eqb, append_assoc, append-nil, length-append, zero-add}
use Rattle.std.specs.Prelude.{option_map, option_and_then}
use Rattle.std.specs.List.{AllByRecursion}
use Rattle.std.proofs.Math.Nat.{mul-mod_left, mul-div_cancel}
use Rattle.std.proofs.lemmas.Option.{same_Some, none-some}
use Rattle.gv_model.specs.Ty.{Ty, Basic, Types, spelling, spellings, letter}
use Rattle.gv_model.specs.Ty.Ty.{basic, variant, array, maybe, tuple, entry}
use Rattle.gv_model.specs.Ty.Types.{end, member}
use Rattle.gv_model.specs.Ty.Basic.{boolean, byte, int16, uint16, int32, uint32, int64, uint64, handle, double, string, path, signature}
use Rattle.gv_model.specs.TypeText.{type_of_text, is_within_limits}
use Rattle.gv_model.specs.Layout.{fixed_size, fixed_end, alignment, greatest_alignment, round_up, padded, basic_size, or_one}
use Rattle.gv_model.specs.Tree.{Trees, type_of}
use Rattle.gv_model.specs.Tree.Trees.{none, first}
use Rattle.gv_model.specs.Typed.{AllOf, types_of}
use Rattle.gv_model.specs.Children.{Span, children_at, child_at}
use Rattle.gv_model.specs.Arrays.{element_spans, fixed_spans}
use Rattle.gv_model.specs.Maybes.{just_span}
use Rattle.gv_model.specs.Tuples.{tuple_spans}
use Rattle.gv_model.specs.Variants.{variant_span, typed_span, at_last_zero, add_first}
use Rattle.gv_model.specs.Decode.{spans}
use Rattle.gv_model.specs.EarlierReading.{earlier_cut}
use Rattle.gv_model.specs.Parts.{Part}
use Rattle.gv_model.specs.Encode.{encoded_parts, packed, array_bytes, tuple_bytes, joined_parts, just_bytes, zeros, framed, body_from, ends_from, open_ends_from, end_after, least_width}
use Rattle.gv_model.proofs.TypeTextLaws.{type_of_text-spelling}
use Rattle.gv_model.proofs.EmptyLaws.{fixed_size_pos, just-nil, elements-nil}
use Rattle.gv_model.proofs.NumberBytes.{le-round_up}
use Rattle.gv_model.specs.Parts.{part_of}
use Rattle.gv_model.proofs.PlacedParts.{part_within, recovered, OneType, framed-placed, length-body_from}
use Rattle.gv_model.proofs.FramedArrays.{framed_read, last_end, last_of, offsets}
use Rattle.gv_model.proofs.MemberLaws.{part_types, HasSize, HaveSizes, HoldsMembers, open_tuple, fixed_tuple}
use Rattle.gv_model.proofs.LayoutLaws.{basic_alignment_pos, members_alignment_pos, round_up-zero}
use Rattle.gv_model.proofs.ListLaws.{all_append}

-- Elements of one size

pub one_size : (n : ℕ) (t : Ty) (xs : List Part) → fixed_size t ≡ Some n → OneType t xs → HaveSizes xs → length (joined_parts xs) ≡ length xs * n
one_size n t [] e h g = omega arith
one_size n t (x ∷ xs) e h g =
    let size : length x.1 ≡ n = (let f : fixed_size x.0 ≡ Some n = ap fixed_size h.0 ∙ e in let k : HasSize (Some n) x = subst (λ (o : Option ℕ). HasSize o x) f g.0 in k) in
    omega (arith, length-append x.1 (joined_parts xs), one_size n t xs e h.1 g.1)

even_read : (n : ℕ) (t : Ty) (b rest : List ℕ) (xs : List Part) (p : ℕ) (prefix : List ℕ) → fixed_size t ≡ Some n → OneType t xs → HaveSizes xs → length prefix ≡ p → b ≡ prefix ++ (joined_parts xs ++ rest) → map (part_of b) (children_at (length b) (fixed_spans t n p (length xs))) ≡ xs
unfolding fixed_spans
even_read n t b rest [] p prefix e h g l whole = refl
even_read n t b rest (x ∷ xs) p prefix e h g l whole =
    let size : length x.1 ≡ n = (let f : fixed_size x.0 ≡ Some n = ap fixed_size h.0 ∙ e in let k : HasSize (Some n) x = subst (λ (o : Option ℕ). HasSize o x) f g.0 in k) in
    let next : b ≡ prefix ++ (x.1 ++ (joined_parts xs ++ rest)) = whole ∙ ap (λ ys. prefix ++ ys) (append_assoc x.1 (joined_parts xs) rest) in
    let to : p + length x.1 ≡ p + n = ap (λ m. p + m) size in
    ap₂ ◌∷◌ (part_within b prefix x.1 (joined_parts xs ++ rest) t p (p + n) next l to ∙ ap (λ (u : Ty). (u, x.1)) (sym h.0))
    (even_read n t b rest xs (p + n) (prefix ++ x.1) e h.1 g.1 (length-append prefix x.1 ∙ (ap (λ m. m + length x.1) l ∙ to)) (next ∙ sym (append_assoc prefix x.1 (joined_parts xs ++ rest))))

framed_rest : List ℕ → List ℕ → List ℕ
framed_rest body ends = offsets (least_width (length body) (length ends)) ends

framed_parts_of : (body ends : List ℕ) → framed body ends ≡ body ++ framed_rest body ends
unfolding framed framed_rest
framed_parts_of body ends = refl

pub nothing_framed : framed (body_from 0 []) (ends_from 0 []) ≡ []
unfolding framed body_from ends_from
nothing_framed = refl

-- what is read of the elements of no fixed size
abbrev framed_parts : Ty → List ℕ → List Part
framed_parts t b = map (part_of b) (children_at (length b) (element_spans t b None))

framed_array : (t : Ty) (xs : List Part) → OneType t xs → framed_parts t (framed (body_from 0 xs) (ends_from 0 xs)) ≡ xs
unfolding ends_from
framed_array t [] h = ap (framed_parts t) nothing_framed ∙ ap (λ (ss : List (Ty × Span)). map (part_of []) (children_at 0 ss)) (elements-nil t None)
framed_array t (x ∷ xs) h =
    let body = body_from 0 (x ∷ xs) in
    let ends = ends_from (end_after 0 x) xs in
    let b = framed body (end_after 0 x ∷ ends) in
    let size : length body ≡ last_of (end_after 0 x) ends = (let n : 0 + length body ≡ length body = omega arith in sym n ∙ (length-body_from 0 (x ∷ xs) ∙ sym (last_end (end_after 0 x) xs))) in
    ap (λ (ss : List (Ty × Span)). map (part_of b) (children_at (length b) ss)) (framed_read t body (end_after 0 x) ends size ∙ framed-placed t 0 (x ∷ xs) h)
    ∙ recovered b (framed_rest body (end_after 0 x ∷ ends)) (x ∷ xs) 0 [] refl (framed_parts_of body (end_after 0 x ∷ ends))

-- an array is cut into its elements
pub array_read : (t : Ty) (xs : List Part) → OneType t xs → HaveSizes xs → map (part_of (packed (array t) xs)) (earlier_cut (array t) (packed (array t) xs)) ≡ xs
unfolding packed earlier_cut spans
array_read t xs h g = go (fixed_size t) refl
  where
    fixed : (n : ℕ) → fixed_size t ≡ Some n → map (part_of (joined_parts xs)) (children_at (length (joined_parts xs)) (element_spans t (joined_parts xs) (Some n))) ≡ xs
    fixed n e =
        let size = one_size n t xs e h g in
        let pos : 0 < n = fixed_size_pos t n e in
        let whole : (length (joined_parts xs) % n) ≡ 0 = ap (λ m. m % n) size ∙ mul-mod_left (length xs) n in
        let count : length (joined_parts xs) / n ≡ length xs = ap (λ m. m / n) size ∙ mul-div_cancel (length xs) pos in
        rw (whole, count) (even_read n t (joined_parts xs) [] xs 0 [] e h g refl (sym (append-nil (joined_parts xs))))

    go : (f : Option ℕ) → fixed_size t ≡ f → map (part_of (array_bytes xs f)) (children_at (length (array_bytes xs f)) (element_spans t (array_bytes xs f) f)) ≡ xs
    go None e = framed_array t xs h
    go (Some n) e = fixed n e

pub one_type : (t : Ty) (vs : Trees) → AllOf t vs → OneType t (encoded_parts vs)
unfolding encoded_parts
one_type t none h = tt
one_type t (first v vs) h = (h.0, one_type t vs h.1)

-- Members

pub types-parts : (vs : Trees) → part_types (encoded_parts vs) ≡ types_of vs
unfolding encoded_parts
types-parts none = refl
types-parts (first v vs) = ap (member (type_of v)) (types-parts vs)

padded_parts : (a : ℕ) (o : Option ℕ) (n : ℕ) → 0 < a → padded a o ≡ Some n → (q : ℕ) × (o ≡ Some q) × (q ≤ n)
padded_parts a None n h e = absurd (none-some n e)
padded_parts a (Some q) n h e = let same : max 1 (round_up a q) ≡ n = same_Some _ n e in (q, refl, omega (arith, le-round_up a q h))

-- a tuple type holds members of its types
abbrev pub Holds : Ty → List Part → Type 0
Holds t xs = (n : ℕ) → fixed_size t ≡ Some n → HoldsMembers (Some n) xs

pub tuple_holds : (ts : Types) (xs : List Part) → part_types xs ≡ ts → Holds (tuple ts) xs
unfolding fixed_size
tuple_holds ts xs e n f =
    let encoded_parts = padded_parts (greatest_alignment ts) (fixed_end ts 0) n (members_alignment_pos ts) f in
    (encoded_parts.0, ap (λ (us : Types). fixed_end us 0) e ∙ encoded_parts.1, encoded_parts.2)

pub tuple_read : (t : Ty) (xs : List Part) → HaveSizes xs → Holds t xs → map (part_of (tuple_bytes xs (fixed_size t))) (children_at (length (tuple_bytes xs (fixed_size t))) (tuple_spans t (part_types xs) (tuple_bytes xs (fixed_size t)))) ≡ xs
tuple_read t xs h g = go (fixed_size t) refl
  where
    go : (f : Option ℕ) → fixed_size t ≡ f → map (part_of (tuple_bytes xs f)) (children_at (length (tuple_bytes xs f)) (tuple_spans t (part_types xs) (tuple_bytes xs f))) ≡ xs
    go None e =
        let b = tuple_bytes xs None in
        ap (λ (ss : List (Ty × Span)). map (part_of b) (children_at (length b) ss)) (open_tuple t xs h e)
        ∙ recovered b (framed_rest (body_from 0 xs) (reverse (open_ends_from 0 xs))) xs 0 [] refl (framed_parts_of (body_from 0 xs) (reverse (open_ends_from 0 xs)))
    go (Some n) e =
        let b = tuple_bytes xs (Some n) in
        ap (λ (ss : List (Ty × Span)). map (part_of b) (children_at (length b) ss)) (fixed_tuple t xs n h e (g n e))
        ∙ recovered b (zeros (n - length (body_from 0 xs))) xs 0 [] refl refl

entry_end : (k : Basic) (t : Ty) → option_and_then (λ p. option_map (λ s. round_up (alignment t) p + s) (fixed_size t)) (basic_size k) ≡ fixed_end (member (basic k) (member t end)) 0
unfolding fixed_end alignment
entry_end k t = go (basic_size k) (fixed_size t)
  where
    start : (p : ℕ) → p ≡ round_up (or_one (basic_size k)) 0 + p
    start p = omega (arith, round_up-zero (or_one (basic_size k)) (basic_alignment_pos k))

    go : (f g : Option ℕ) → option_and_then (λ p. option_map (λ s. round_up (alignment t) p + s) g) f ≡ option_and_then (λ p. option_and_then (λ s. Some (round_up (alignment t) (round_up (or_one (basic_size k)) 0 + p) + s)) g) f
    go None g = refl
    go (Some p) None = refl
    go (Some p) (Some s) = ap (λ q. Some (round_up (alignment t) q + s)) (start p)

size_of_entry : (k : Basic) (t : Ty) → fixed_size (entry k t) ≡ padded (max (or_one (basic_size k)) (alignment t)) (option_and_then (λ p. option_map (λ s. round_up (alignment t) p + s) (fixed_size t)) (basic_size k))
unfolding fixed_size
size_of_entry k t = refl

pub entry_holds : (k : Basic) (t : Ty) (xs : List Part) → part_types xs ≡ member (basic k) (member t end) → Holds (entry k t) xs
entry_holds k t xs e n f =
    let encoded_parts = padded_parts (max (or_one (basic_size k)) (alignment t)) (fixed_end (member (basic k) (member t end)) 0) n (omega (arith, basic_alignment_pos k)) (ap (padded (max (or_one (basic_size k)) (alignment t))) (sym (entry_end k t)) ∙ (sym (size_of_entry k t) ∙ f)) in
    (encoded_parts.0, ap (λ (us : Types). fixed_end us 0) e ∙ encoded_parts.1, encoded_parts.2)

-- Just

just_part : (t : Ty) (bs : List ℕ) (f : Option ℕ) → HasSize f (t, bs) → map (part_of (just_bytes bs f)) (children_at (length (just_bytes bs f)) (just_span t (length (just_bytes bs f)) f)) ≡ (t, bs) ∷ []
just_part t bs (Some n) h =
    let same : (length bs == n) ≡ true = eq-eqb (length bs) n h in
    let part : part_of bs (child_at (length bs) (t, Some (0, length bs))) ≡ (t, bs) = part_within bs [] bs [] t 0 (length bs) (sym (append-nil bs)) refl (zero-add (length bs)) in
    rw same (ap (λ (x : Part). x ∷ []) part)
just_part t bs None h =
    let b = bs ++ 0 ∷ [] in
    let size : length b ≡ length bs + 1 = length-append bs (0 ∷ []) in
    let some : (length b == 0) ≡ false = ne_eqb (length b) 0 (omega arith) in
    let part : part_of b (child_at (length b) (t, Some (0, length b - 1))) ≡ (t, bs) = part_within b [] bs (0 ∷ []) t 0 (length b - 1) refl refl (omega arith) in
    rw some (ap (λ (x : Part). x ∷ []) part)

pub just_read : (t : Ty) (x : Part) → x.0 ≡ t → HasSize (fixed_size x.0) x → map (part_of (packed (maybe t) (x ∷ []))) (earlier_cut (maybe t) (packed (maybe t) (x ∷ []))) ≡ x ∷ []
unfolding packed earlier_cut spans
just_read t x e h =
    subst (λ (u : Ty). map (part_of (just_bytes x.1 (fixed_size x.0))) (children_at (length (just_bytes x.1 (fixed_size x.0))) (just_span u (length (just_bytes x.1 (fixed_size x.0))) (fixed_size u))) ≡ x ∷ []) e
    (just_part x.0 x.1 (fixed_size x.0) h)

pub nothing_read : (t : Ty) → map (part_of (packed (maybe t) [])) (earlier_cut (maybe t) (packed (maybe t) [])) ≡ []
unfolding packed earlier_cut spans
nothing_read t = ap (λ (ss : List (Ty × Span)). map (part_of []) (children_at 0 ss)) (just-nil t (fixed_size t) (λ n e. fixed_size_pos t n e))

-- A variant

abbrev pub NoZero : List ℕ → Type 0
NoZero s = AllByRecursion (λ c. 0 < c) s

letter_pos : (k : Basic) → 0 < letter k
letter_pos boolean = omega arith
letter_pos byte = omega arith
letter_pos int16 = omega arith
letter_pos uint16 = omega arith
letter_pos int32 = omega arith
letter_pos uint32 = omega arith
letter_pos int64 = omega arith
letter_pos uint64 = omega arith
letter_pos handle = omega arith
letter_pos double = omega arith
letter_pos string = omega arith
letter_pos path = omega arith
letter_pos signature = omega arith

mutual
  unfolding spelling

  pub no_zero-spelling : (t : Ty) → NoZero (spelling t)
  no_zero-spelling (basic k) = (letter_pos k, tt)
  no_zero-spelling variant = (omega arith, tt)
  no_zero-spelling (array t) = (omega arith, no_zero-spelling t)
  no_zero-spelling (maybe t) = (omega arith, no_zero-spelling t)
  no_zero-spelling (tuple ts) = (omega arith, all_append (λ c. 0 < c) (spellings ts) (41 ∷ []) (no_zero-spellings ts) (omega arith, tt))
  no_zero-spelling (entry k t) = (omega arith, (letter_pos k, all_append (λ c. 0 < c) (spelling t) (125 ∷ []) (no_zero-spelling t) (omega arith, tt)))

  no_zero-spellings : (ts : Types) → NoZero (spellings ts)
  no_zero-spellings end = tt
  no_zero-spellings (member t ts) = all_append (λ c. 0 < c) (spelling t) (spellings ts) (no_zero-spelling t) (no_zero-spellings ts)

without_zero : (s : List ℕ) → NoZero s → at_last_zero s ≡ None
unfolding at_last_zero
without_zero [] h = refl
without_zero (c ∷ cs) h = let no : (c == 0) ≡ false = ne_eqb c 0 (omega (arith, h.0)) in ap (add_first c cs) (without_zero cs h.1) ∙ rw no refl

pub at_zero : (bs s : List ℕ) → NoZero s → at_last_zero (bs ++ 0 ∷ s) ≡ Some (bs, s)
unfolding at_last_zero
at_zero [] s h = ap (add_first 0 s) (without_zero s h)
at_zero (c ∷ cs) s h = ap (add_first c (cs ++ 0 ∷ s)) (at_zero cs s h)

pub variant_read : (t : Ty) (bs : List ℕ) → is_within_limits t (spelling t) ≡ true → map (part_of (packed variant ((t, bs) ∷ []))) (earlier_cut variant (packed variant ((t, bs) ∷ []))) ≡ (t, bs) ∷ []
unfolding packed earlier_cut spans
variant_read t bs h =
    let b = bs ++ 0 ∷ spelling t in
    let found : at_last_zero b ≡ Some (bs, spelling t) = at_zero bs (spelling t) (no_zero-spelling t) in
    let known : type_of_text (spelling t) ≡ Some t = type_of_text-spelling t h in
    let part : part_of b (child_at (length b) (t, Some (0, length bs))) ≡ (t, bs) = part_within b [] bs (0 ∷ spelling t) t 0 (length bs) refl refl (zero-add (length bs)) in
    ap (λ (s : Ty × Span). part_of b (child_at (length b) s) ∷ []) (ap variant_span found ∙ ap (typed_span (length bs)) known) ∙ ap (λ (x : Part). x ∷ []) part

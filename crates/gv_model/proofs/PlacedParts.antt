-- Parts that were written one after the other are read where they lie.
use Rattle.std.proofs.Common.{ℕ, zero, suc, ◌+◌, ◌-◌, ◌*◌, ◌≤◌, ◌≡◌, Option, true, nat_le, le-leb, map, List, [], ◌∷◌, ◌++◌, length, slice_range, Some, refl, sym, ap, ap₂, ◌∙◌, arith, append_assoc, length-append}
use Rattle.std.proofs.lemmas.List.{length-replicate}
use Rattle.gv_model.specs.Ty.{Ty}
use Rattle.gv_model.specs.Layout.{alignment, round_up}
use Rattle.gv_model.specs.Children.{Span, children_at, child_at, ordered}
use Rattle.gv_model.specs.Arrays.{offset_spans, fixed_spans}
use Rattle.gv_model.specs.Parts.{Part, part_of}
use Rattle.gv_model.specs.Encode.{zeros, start_after, end_after, body_from, ends_from}
use Rattle.gv_model.proofs.NumberBytes.{le-round_up, slice_mid}
use Rattle.gv_model.proofs.LayoutLaws.{alignment_pos, bounds_within}

pub le-start_after : (p : ℕ) (x : Part) → p ≤ start_after p x
le-start_after p x = le-round_up (alignment x.0) p (alignment_pos x.0)

pub length-zeros : (n : ℕ) → length (zeros n) ≡ n
length-zeros n = length-replicate n 0

-- where the last part ends
abbrev pub end_from : ℕ → List Part → ℕ
end_from p [] = p
end_from p (x ∷ xs) = end_from (end_after p x) xs

pub length-body_from : (p : ℕ) (xs : List Part) → p + length (body_from p xs) ≡ end_from p xs
unfolding body_from
length-body_from p [] = omega arith
length-body_from p (x ∷ xs) =
    let padding = zeros (start_after p x - p) in
    let rest = body_from (end_after p x) xs in
    omega (arith, length-append padding (x.1 ++ rest), length-append x.1 rest, length-zeros (start_after p x - p), le-start_after p x, length-body_from (end_after p x) xs)

-- where the parts lie
abbrev pub placed : ℕ → List Part → List (Ty × Span)
placed p [] = []
placed p (x ∷ xs) = (x.0, Some (start_after p x, end_after p x)) ∷ placed (end_after p x) xs

pub part_within : (b xs ys zs : List ℕ) (t : Ty) (s e : ℕ) → b ≡ xs ++ (ys ++ zs) → length xs ≡ s → s + length ys ≡ e → part_of b (child_at (length b) (t, Some (s, e))) ≡ (t, ys)
part_within b xs ys zs t s e whole h g =
    let size : length b ≡ length xs + (length ys + length zs) = ap length whole ∙ (length-append xs (ys ++ zs) ∙ ap (λ n. length xs + n) (length-append ys zs)) in
    ap (λ (q : ℕ × ℕ). (t, slice_range b q.0 q.1)) (bounds_within (length b) s e (omega arith) (omega arith))
    ∙ (ap (λ (c : List ℕ). (t, slice_range c s e)) whole ∙ ap (λ (c : List ℕ). (t, c)) (slice_mid xs ys zs s e h g))

regroup : (f z x r t : List ℕ) → f ++ ((z ++ (x ++ r)) ++ t) ≡ (f ++ z) ++ (x ++ (r ++ t))
regroup f z x r t = simp append_assoc

regroup_next : (f x r : List ℕ) → f ++ (x ++ r) ≡ (f ++ x) ++ r
regroup_next f x r = sym (append_assoc f x r)

-- each part is read where it was written
pub recovered : (b rest : List ℕ) (xs : List Part) (p : ℕ) (prefix : List ℕ) → length prefix ≡ p → b ≡ prefix ++ (body_from p xs ++ rest) → map (part_of b) (children_at (length b) (placed p xs)) ≡ xs
unfolding body_from
recovered b rest [] p prefix h whole = refl
recovered b rest (x ∷ xs) p prefix h whole =
    let padding = zeros (start_after p x - p) in
    let whole' : b ≡ (prefix ++ padding) ++ (x.1 ++ (body_from (end_after p x) xs ++ rest)) = whole ∙ regroup prefix padding x.1 (body_from (end_after p x) xs) rest in
    let start : length (prefix ++ padding) ≡ start_after p x = omega (arith, length-append prefix padding, length-zeros (start_after p x - p), le-start_after p x) in
    ap₂ ◌∷◌ (part_within b (prefix ++ padding) x.1 _ x.0 (start_after p x) (end_after p x) whole' start refl)
    (recovered b rest xs (end_after p x) ((prefix ++ padding) ++ x.1) (length-append (prefix ++ padding) x.1 ∙ ap (λ n. n + length x.1) start) (whole' ∙ regroup_next (prefix ++ padding) x.1 _))

-- parts of one type
abbrev pub OneType : Ty → List Part → Type 0
OneType t [] = Unit {0}
OneType t (x ∷ xs) = (x.0 ≡ t) × OneType t xs

-- the elements of an array of no fixed size lie where their ends say
pub framed-placed : (t : Ty) (p : ℕ) (xs : List Part) → OneType t xs → offset_spans t p (ends_from p xs) ≡ placed p xs
unfolding offset_spans ends_from
framed-placed t p [] h = refl
framed-placed t p (x ∷ xs) h =
    ap₂ ◌∷◌ (ap (λ (u : Ty). (u, Some (round_up (alignment u) p, end_after p x))) (sym h.0)) (framed-placed t (end_after p x) xs h.1)

-- ---- parts that lie in order stay where they are

pub ordered-nil : (e : Option ℕ) → ordered e [] ≡ []
unfolding ordered
ordered-nil e = refl

pub in_order : (n : ℕ) (t : Ty) (s e : ℕ) (xs : List (Ty × Span)) → s ≤ e → e ≤ n → ordered (Some n) xs ≡ xs → ordered (Some n) ((t, Some (s, e)) ∷ xs) ≡ (t, Some (s, e)) ∷ xs
unfolding ordered
in_order n t s e xs h g k = let low : nat_le s e ≡ true = le-leb s e h in let high : nat_le e n ≡ true = le-leb e n g in rw (low, high) (ap (◌∷◌ (t, Some (s, e))) k)

pub ordered-one : (n : ℕ) (t : Ty) (s e : ℕ) → s ≤ e → e ≤ n → ordered (Some n) ((t, Some (s, e)) ∷ []) ≡ (t, Some (s, e)) ∷ []
ordered-one n t s e h g = in_order n t s e [] h g (ordered-nil (Some n))

pub ordered-placed : (n p : ℕ) (xs : List Part) → end_from p xs ≤ n → ordered (Some n) (placed p xs) ≡ placed p xs
ordered-placed n p [] h = ordered-nil (Some n)
ordered-placed n p (x ∷ xs) h =
    let after = length-body_from (end_after p x) xs in
    in_order n x.0 (start_after p x) (end_after p x) (placed (end_after p x) xs) (omega arith) (omega arith) (ordered-placed n (end_after p x) xs h)

pub ordered-fixed : (n : ℕ) (t : Ty) (size p count : ℕ) → p + count * size ≤ n → ordered (Some n) (fixed_spans t size p count) ≡ fixed_spans t size p count
unfolding fixed_spans
ordered-fixed n t size p zero h = ordered-nil (Some n)
ordered-fixed n t size p (suc count) h = in_order n t p (p + size) (fixed_spans t size (p + size) count) (omega arith) (omega arith) (ordered-fixed n t size (p + size) count (omega arith))

-- An array with offsets is cut at its ends.
use Rattle.std.proofs.Common.{ℕ, suc, ◌+◌, ◌-◌, ◌*◌, ◌/◌, ◌%◌, ◌<◌, ◌≡◌, List, [], ◌∷◌, ◌++◌, length, drop, flat_map, None, refl, sym, ap, ap₂, ◌∙◌, arith, true, false, ◌==◌, nat_le, le-leb, ne_eqb, append-nil, length-append, mul_comm}
use Rattle.std.proofs.Math.Seq.{drop-append-add, drop-append_seam}
use Rattle.std.proofs.Math.Nat.{mul-mod_left, mul-div_cancel}
use Rattle.std.proofs.lemmas.List.{take_at, drop_at}
use Rattle.gv_model.specs.Ty.{Ty}
use Rattle.gv_model.specs.Layout.{offset_width}
use Rattle.gv_model.specs.BasicValue.{number_in}
use Rattle.gv_model.specs.Arrays.{numbers_in, element_spans, framed_from, offset_spans}
use Rattle.gv_model.specs.Parts.{Part}
use Rattle.gv_model.specs.Encode.{number_bytes, least_width, framed, ends_from, end_after}
use Rattle.gv_model.proofs.NumberBytes.{length-number_bytes, number_in-number_bytes, offset_width-least}
use Rattle.gv_model.proofs.PlacedParts.{end_from}

abbrev pub offsets : ℕ → List ℕ → List ℕ
offsets w ends = flat_map (number_bytes w) ends

pub length-offsets : (w : ℕ) (xs : List ℕ) → length (offsets w xs) ≡ length xs * w
length-offsets w [] = omega arith
length-offsets w (x ∷ xs) = omega (arith, length-append (number_bytes w x) (offsets w xs), length-number_bytes w x, length-offsets w xs)

pub numbers_in-offsets : (w : ℕ) (xs : List ℕ) → 0 < w → numbers_in w (length xs) (offsets w xs) ≡ xs
unfolding numbers_in
numbers_in-offsets w [] h = refl
numbers_in-offsets w (x ∷ xs) h =
    let size = length-number_bytes w x in
    ap₂ ◌∷◌ (ap number_in (take_at (number_bytes w x) (offsets w xs) w size) ∙ number_in-number_bytes w x h)
    (ap (numbers_in w (length xs)) (drop_at (number_bytes w x) (offsets w xs) w size) ∙ numbers_in-offsets w xs h)

abbrev pub last_of : ℕ → List ℕ → ℕ
last_of x [] = x
last_of x (y ∷ ys) = last_of y ys

drop_two : (xs ys : List ℕ) (m n k : ℕ) → length xs ≡ m → k ≡ m + n → drop k (xs ++ ys) ≡ drop n ys
drop_two xs ys m n k h g = ap (λ i. drop i (xs ++ ys)) (g ∙ ap (λ i. i + n) (sym h)) ∙ drop-append-add xs ys n

last_offset : (w x : ℕ) (xs : List ℕ) → 0 < w → number_in (drop (length xs * w) (offsets w (x ∷ xs))) ≡ last_of x xs
last_offset w x [] h =
    let none : 0 * w ≡ 0 = omega arith in
    ap (λ i. number_in (drop i (number_bytes w x ++ []))) none ∙ (ap number_in (append-nil (number_bytes w x)) ∙ number_in-number_bytes w x h)
last_offset w x (y ∷ ys) h =
    ap number_in (drop_two (number_bytes w x) (offsets w (y ∷ ys)) w (length ys * w) (suc (length ys) * w) (length-number_bytes w x) (omega arith)) ∙ last_offset w y ys h

pub last_end : (p : ℕ) (xs : List Part) → last_of p (ends_from p xs) ≡ end_from p xs
unfolding ends_from
last_end p [] = refl
last_end p (x ∷ xs) = last_end (end_after p x) xs

pub least_width_pos : (n k : ℕ) → 0 < least_width n k
unfolding least_width
least_width_pos n k = grind arith

chosen : (t : Ty) (w e n count : ℕ) (b : List ℕ) → 0 < w → length b ≡ n → n ≡ e + count * w → framed_from t w e b ≡ offset_spans t 0 (numbers_in w count (drop e b))
chosen t w e n count b h g k =
    let rest : length b - e ≡ count * w = omega arith in
    let low : nat_le e (length b) ≡ true = le-leb e (length b) (omega arith) in
    let whole : (length b - e) % w ≡ 0 = ap (λ m. m % w) rest ∙ mul-mod_left count w in
    let number : (length b - e) / w ≡ count = ap (λ m. m / w) rest ∙ mul-div_cancel count h in
    rw (low, whole, number) refl

-- the last offset is where the body ends
pub last_number : (body : List ℕ) (e : ℕ) (es : List ℕ) → length body ≡ last_of e es → number_in (drop (length (framed body (e ∷ es)) - offset_width (length (framed body (e ∷ es)))) (framed body (e ∷ es))) ≡ length body
unfolding framed
last_number body e es h =
    let w = least_width (length body) (suc (length es)) in
    let tail = offsets w (e ∷ es) in
    let b = body ++ tail in
    let pos : 0 < w = least_width_pos (length body) (suc (length es)) in
    let size : length b ≡ length body + suc (length es) * w = length-append body tail ∙ ap (λ n. length body + n) (length-offsets w (e ∷ es)) in
    let width : offset_width (length b) ≡ w = ap offset_width (size ∙ ap (λ n. length body + n) (mul_comm (suc (length es)) w)) ∙ offset_width-least (length body) (suc (length es)) (omega arith) in
    let last : number_in (drop (length b - w) b) ≡ length body =
    ap number_in (drop_two body tail (length body) (length es * w) (length b - w) refl (omega arith)) ∙ (last_offset w e es pos ∙ sym h) in
    rw width last

-- an array with offsets is cut at its ends
pub framed_read : (t : Ty) (body : List ℕ) (e : ℕ) (es : List ℕ) → length body ≡ last_of e es → element_spans t (framed body (e ∷ es)) None ≡ offset_spans t 0 (e ∷ es)
unfolding framed
framed_read t body e es h =
    let w = least_width (length body) (suc (length es)) in
    let tail = offsets w (e ∷ es) in
    let b = body ++ tail in
    let pos : 0 < w = least_width_pos (length body) (suc (length es)) in
    let size : length b ≡ length body + suc (length es) * w = length-append body tail ∙ ap (λ n. length body + n) (length-offsets w (e ∷ es)) in
    let width : offset_width (length b) ≡ w = ap offset_width (size ∙ ap (λ n. length body + n) (mul_comm (suc (length es)) w)) ∙ offset_width-least (length body) (suc (length es)) (omega arith) in
    let some : (length b == 0) ≡ false = ne_eqb (length b) 0 (omega arith) in
    let last : number_in (drop (length b - w) b) ≡ length body =
    ap number_in (drop_two body tail (length body) (length es * w) (length b - w) refl (omega arith)) ∙ (last_offset w e es pos ∙ sym h) in
    rw (some, width, last) (chosen t w (length body) (length b) (suc (length es)) b pos refl size ∙ ap (offset_spans t 0) (ap (numbers_in w (suc (length es))) (drop-append_seam body tail) ∙ numbers_in-offsets w (e ∷ es) pos))

-- Parts of bytes joined again, and numbers written back as the bytes that they were read from.
use Rattle.std.proofs.Common.{ℕ, zero, suc, ◌+◌, ◌-◌, ◌*◌, ◌/◌, ◌%◌, ◌<◌, ◌≤◌, ◌≡◌, List, [], ◌∷◌, ◌++◌, length, take, drop, slice_range, refl, ap, ap₂, ◌∙◌, arith, length-drop, length-take}
use Rattle.std.proofs.lemmas.List.{take-append-drop, drop-drop, length-take-le}
use Rattle.std.proofs.Math.Seq.{take-add}
use Rattle.gv_layout.proofs.Numbers.{AreBytes}
use Rattle.gv_model.specs.BasicValue.{number_in}
use Rattle.gv_model.specs.Arrays.{numbers_in}
use Rattle.gv_model.specs.Encode.{number_bytes}
use Rattle.gv_model.proofs.WellTyped.{IsBytes, bytes_take, bytes_drop}
use Rattle.gv_model.proofs.FramedArrays.{offsets}

pub pieces : (b : List ℕ) (p s e : ℕ) → p ≤ s → s ≤ e → slice_range b p e ≡ slice_range b p s ++ slice_range b s e
pieces b p s e h g =
    let size : e - p ≡ (s - p) + (e - s) = omega arith in
    let place : p + (s - p) ≡ s = omega arith in
    ap (λ n. take n (drop p b)) size
    ∙ (take-add (s - p) (e - s) (drop p b)
    ∙ ap (λ ys. slice_range b p s ++ take (e - s) ys) (drop-drop (s - p) p b ∙ ap (λ n. drop n b) place))

pub length-piece : (b : List ℕ) (s e : ℕ) → e ≤ length b → length (slice_range b s e) ≡ e - s
length-piece b s e h = length-take-le (e - s) (drop s b) (omega (arith, length-drop s b))

pub no_piece : (b : List ℕ) (p : ℕ) → slice_range b p p ≡ []
no_piece b p = let none : p - p ≡ 0 = omega arith in rw none refl

pub prefix_and_rest : (b : List ℕ) (m : ℕ) → slice_range b 0 m ++ drop m b ≡ b
prefix_and_rest b m = let whole : m - 0 ≡ m = omega arith in ap (λ n. take n b ++ drop m b) whole ∙ take-append-drop m b

pub bytes_piece : (b : List ℕ) (s e : ℕ) → IsBytes b → IsBytes (slice_range b s e)
bytes_piece b s e h = bytes_take (e - s) (drop s b) (bytes_drop s b h)

pub bytes_prefix : (xs ys : List ℕ) → IsBytes (xs ++ ys) → IsBytes xs
bytes_prefix [] ys h = tt
bytes_prefix (x ∷ xs) ys h = (h.0, bytes_prefix xs ys h.1)

pub number_back : (w : ℕ) (c : List ℕ) → 0 < w → length c ≡ w → IsBytes c → number_bytes w (number_in c) ≡ c
unfolding number_bytes number_in
number_back zero c h g k = absurd (omega arith)
number_back (suc zero) [] h g k = absurd (omega (arith, g))
number_back (suc zero) (x ∷ []) h g k = let n : x + 256 * 0 ≡ x = omega arith in ap (λ y. y ∷ []) n
number_back (suc zero) (x ∷ y ∷ c) h g k = absurd (omega (arith, g))
number_back (suc (suc w)) [] h g k = absurd (omega (arith, g))
number_back (suc (suc w)) (x ∷ c) h g k =
    let low : (x + 256 * number_in c) % 256 ≡ x = omega (arith, k.0) in
    let high : (x + 256 * number_in c) / 256 ≡ number_in c = omega (arith, k.0) in
    ap₂ ◌∷◌ low (ap (number_bytes (suc w)) high ∙ number_back (suc w) c (omega arith) (omega (arith, g)) k.1)

pub offsets_back : (w count : ℕ) (c : List ℕ) → 0 < w → length c ≡ count * w → IsBytes c → offsets w (numbers_in w count c) ≡ c
unfolding numbers_in
offsets_back w zero [] h g k = refl
offsets_back w zero (x ∷ c) h g k = absurd (omega (arith, g))
offsets_back w (suc count) c h g k =
    ap₂ ◌++◌ (number_back w (take w c) h (length-take-le w c (omega (arith, g))) (bytes_take w c k))
    (offsets_back w count (drop w c) h (omega (arith, g, length-drop w c)) (bytes_drop w c k))
    ∙ take-append-drop w c

pub numbers_at : (w count : ℕ) (c : List ℕ) (i : ℕ) → i < count → drop i (numbers_in w count c) ≡ number_in (take w (drop (i * w) c)) ∷ drop (suc i) (numbers_in w count c)
unfolding numbers_in
numbers_at w zero c i h = absurd (omega arith)
numbers_at w (suc count) c zero h = let none : 0 ≡ 0 * w = omega arith in ap (λ k. number_in (take w (drop k c)) ∷ numbers_in w count (drop w c)) none
numbers_at w (suc count) c (suc i) h =
    let place : w + i * w ≡ suc i * w = omega arith in
    numbers_at w count (drop w c) i (omega arith)
    ∙ ap (λ ys. number_in (take w ys) ∷ drop (suc i) (numbers_in w count (drop w c))) (drop-drop (i * w) w c ∙ ap (λ k. drop k c) place)

pub numbers_end : (w count : ℕ) (c : List ℕ) → drop count (numbers_in w count c) ≡ []
unfolding numbers_in
numbers_end w zero c = refl
numbers_end w (suc count) c = numbers_end w count (drop w c)

-- bytes as the machine has them
pub are_bytes : (b : List ℕ) → AreBytes b → IsBytes b
are_bytes [] h = tt
are_bytes (x ∷ b) h = (omega (arith, h 0), are_bytes b (λ k. h (suc k)))

pub short_part : (b : List ℕ) (n w : ℕ) → w ≤ 8 → length (take (n - (n - w)) (drop (n - w) b)) ≤ 8
short_part b n w h = omega (arith, length-take (n - (n - w)) (drop (n - w) b))

pub short_from : (b : List ℕ) (n w : ℕ) → w ≤ 8 → length (take (n + w - n) (drop n b)) ≤ 8
short_from b n w h = omega (arith, length-take (n + w - n) (drop n b))

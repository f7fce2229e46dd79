-- Numbers in eight bytes, read and written.
use Rattle.std.proofs.Common.{ℕ, zero, suc, ◌+◌, ◌-◌, ◌*◌, ◌^◌, ◌<◌, ◌≤◌, ◌≡◌, List, [], ◌∷◌, ◌++◌, length, get_or, take, drop, refl, sym, ◌∙◌, ap, ap₂, arith, append_assoc, append-nil, drop-cons, length-drop, length-append}
use Rattle.std.specs.Prelude.{flat_map}
use Rattle.std.proofs.lemmas.List.{drop_all, take_at, drop_at, drop-drop, flat_map_more, length-take-le, take_more}
use Rattle.std.proofs.Math.Seq.{drop-append-add}
use Rattle.byteorder.specs.Endian.{little_bytes, little_from, little_number}
use Rattle.gv_model.specs.BasicValue.{number_in}
use Rattle.gv_model.specs.Encode.{number_bytes}
use Rattle.gv_model.proofs.NumberBytes.{length-number_bytes, low_bytes, number_in-number_bytes}

from_place : (n i : ℕ) (b : List ℕ) → i + n ≡ length b → little_from i n b ≡ number_in (drop i b)
unfolding number_in
from_place zero i b h = let e : drop i b ≡ [] = drop_all i b (omega arith) in rw e refl
from_place (suc n) i b h =
    let there : i < length b = omega arith in
    rw (drop-cons b i 0) (ap (λ m. get_or b i 0 + 256 * m) (from_place n (suc i) b (omega arith)))

-- what is read of eight bytes
pub eight_read : (b : List ℕ) → length b ≡ 8 → little_number 8 b ≡ number_in b
eight_read b h = from_place 8 0 b (omega arith)

-- what is written over eight bytes
pub eight_written : (n : ℕ) (old : List ℕ) → n < 2 ^ 64 → length old ≡ 8 → little_bytes 8 n ++ drop 8 old ≡ number_bytes 8 n
eight_written n old small size =
    let none : drop 8 old ≡ [] = drop_all 8 old (omega arith) in
    rw none (append-nil (little_bytes 8 n) ∙ sym (low_bytes 8 n (omega (arith, small))))

pub length_all : (ns : List ℕ) → length (flat_map (number_bytes 8) ns) ≡ 8 * length ns
length_all [] = refl
length_all (n ∷ ns) = length-append (number_bytes 8 n) (flat_map (number_bytes 8) ns) ∙ omega (arith, length-number_bytes 8 n, length_all ns)

-- the number in its place
pub placed : (ns : List ℕ) (i : ℕ) → i < length ns → number_in (take 8 (drop (8 * i) (flat_map (number_bytes 8) ns))) ≡ get_or ns i 0
placed [] i h = absurd (omega arith)
placed (n ∷ ns) zero h = ap number_in (take_at (number_bytes 8 n) (flat_map (number_bytes 8) ns) 8 (length-number_bytes 8 n)) ∙ number_in-number_bytes 8 n (omega arith)
placed (n ∷ ns) (suc i) h =
    let further : 8 * suc i ≡ length (number_bytes 8 n) + 8 * i = omega (arith, length-number_bytes 8 n) in
    rw further (ap (λ b. number_in (take 8 b)) (drop-append-add (number_bytes 8 n) (flat_map (number_bytes 8) ns) (8 * i)) ∙ placed ns i (omega arith))

-- ---- a number in a room

pub put_is : (n at : ℕ) (room buf : List ℕ) → n < 2 ^ 64 → at + 8 ≤ length room → buf ≡ little_bytes 8 n ++ drop 8 (take (at + 8 - at) (drop at room))
    → take at room ++ (buf ++ drop (at + 8 - at) (drop at room)) ≡ take at room ++ (number_bytes 8 n ++ drop (at + 8) room)
put_is n at room buf small reach is =
    let eight : at + 8 - at ≡ 8 = omega arith in
    let size : length (take (at + 8 - at) (drop at room)) ≡ 8 = length-take-le (at + 8 - at) (drop at room) (omega (arith, reach, length-drop at room)) ∙ eight in
    let there : buf ≡ number_bytes 8 n = is ∙ eight_written n (take (at + 8 - at) (drop at room)) small size in
    let rest : drop (at + 8 - at) (drop at room) ≡ drop (at + 8) room = ap (λ (k : ℕ). drop k (drop at room)) eight ∙ drop-drop 8 at room in
    ap (λ ys. take at room ++ ys) (ap₂ ◌++◌ there rest)

-- one number more
pub one_more : (ns : List ℕ) (i : ℕ) (old room new : List ℕ) → i < length ns → room ≡ flat_map (number_bytes 8) (take i ns) ++ drop (8 * i) old
    → new ≡ take (8 * i) room ++ (number_bytes 8 (get_or ns i 0) ++ drop (8 * i + 8) room) → new ≡ flat_map (number_bytes 8) (take (i + 1) ns) ++ drop (8 * (i + 1)) old
one_more ns i old room new inside is put =
    let so_far : List ℕ = flat_map (number_bytes 8) (take i ns) in
    let size : length so_far ≡ 8 * i = length_all (take i ns) ∙ ap (λ k. 8 * k) (length-take-le i ns (omega (arith, inside))) in
    let front : take (8 * i) room ≡ so_far = ap (take (8 * i)) is ∙ take_at so_far (drop (8 * i) old) (8 * i) size in
    let behind : drop (8 * i) room ≡ drop (8 * i) old = ap (drop (8 * i)) is ∙ drop_at so_far (drop (8 * i) old) (8 * i) size in
    let further : 8 * i + 8 ≡ 8 * (i + 1) = omega arith in
    let back : drop (8 * i + 8) room ≡ drop (8 * (i + 1)) old =
    sym (drop-drop 8 (8 * i) room) ∙ (ap (drop 8) behind ∙ (drop-drop 8 (8 * i) old ∙ ap (λ (k : ℕ). drop k old) further)) in
    let more : so_far ++ number_bytes 8 (get_or ns i 0) ≡ flat_map (number_bytes 8) (take (i + 1) ns) =
    flat_map_more (number_bytes 8) [] (take i ns) (get_or ns i 0) ∙ ap (flat_map (number_bytes 8)) (sym (take_more ns i 0 inside)) in
    put ∙ (ap₂ (λ xs ys. xs ++ (number_bytes 8 (get_or ns i 0) ++ ys)) front back
    ∙ (sym (append_assoc so_far (number_bytes 8 (get_or ns i 0)) (drop (8 * (i + 1)) old)) ∙ ap (λ xs. xs ++ drop (8 * (i + 1)) old) more))

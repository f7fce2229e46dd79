-- Framing offsets: how long they are, and that each fits its width.
use Rattle.std.proofs.Common.{ℕ, ◌+◌, ◌*◌, ◌^◌, ◌<◌, ◌≤◌, ◌≡◌, Bool, true, false, cond, List, ◌∷◌, ◌++◌, length, drop, flat_map, nat_le, refl, sym, ap, ◌∙◌, subst, arith, mul-le-mul}
use Rattle.std.specs.List.{AllByRecursion}
use Rattle.std.proofs.Math.ListN.{get_or}
use Rattle.std.proofs.lemmas.List.{drop_more}
use Rattle.std.proofs.lemmas.Bool.{leb-true}
use Rattle.gv_model.specs.Encode.{least_width}
use Rattle.gv_model.proofs.FramedArrays.{offsets, length-offsets, least_width_pos}
use Rattle.gv_build.specs.Writing.{offsets_of}
use Rattle.gv_build.proofs.Outcomes.{part_le_whole}

-- each offset takes a byte or more
pub offsets_long : (n : ℕ) (ends : List ℕ) → length ends ≤ length (offsets_of n ends)
offsets_long n ends =
    let w = least_width n (length ends) in
    let size : length (offsets w ends) ≡ length ends * w = length-offsets w ends in
    let pos : 1 ≤ w = least_width_pos n (length ends) in
    let more : length ends * 1 ≤ length ends * w = mul-le-mul (omega arith) pos in
    omega arith

-- what is no more than the body fits in the least width
pub fits_width : (n k e : ℕ) → n ≤ 4294967295 → e ≤ n → e < 256 ^ least_width n k
unfolding least_width
fits_width n k e h g = go (nat_le (n + k) 255) (nat_le (n + 2 * k) 65535) (nat_le (n + 4 * k) 4294967295) refl refl
  where
    go : (a b c : Bool) → (nat_le (n + k) 255 ≡ a) → (nat_le (n + 2 * k) 65535 ≡ b) → e < 256 ^ cond a 1 (cond b 2 (cond c 4 8))
    go true b c p q = let low = leb-true (n + k) 255 p in omega arith
    go false true c p q = let low = leb-true (n + 2 * k) 65535 q in omega arith
    go false false true p q = omega arith
    go false false false p q = omega arith

-- the offset that is written next
pub offset_fits : (w n k i e : ℕ) (ends : List ℕ) → n ≤ 4294967295 → AllByRecursion (λ x. x ≤ n) (drop i ends) → i < length ends → e ≡ get_or ends i 0 → w ≡ least_width n k → e < 256 ^ w
offset_fits w n k i e ends room within there is width =
    let here : drop i ends ≡ get_or ends i 0 ∷ drop (i + 1) ends = drop_more ends i 0 there in
    let low : get_or ends i 0 ≤ n = (subst (AllByRecursion (λ x. x ≤ n)) here within).0 in
    rw (is, width) (fits_width n k (get_or ends i 0) room low)

pub offset_part : (f : ℕ → List ℕ) (out before ends : List ℕ) (i e : ℕ) → i < length ends → e ≡ get_or ends i 0 → out ++ flat_map f (drop i ends) ≡ before ++ flat_map f ends → length out + length (f e) ≤ length before + length (flat_map f ends)
offset_part f out before ends i e there is wrote =
    let here : drop i ends ≡ e ∷ drop (i + 1) ends = drop_more ends i 0 there ∙ ap (λ x. x ∷ drop (i + 1) ends) (sym is) in
    part_le_whole out (f e) (flat_map f (drop (i + 1) ends)) before (flat_map f ends) (ap (λ ys. out ++ flat_map f ys) (sym here) ∙ wrote)

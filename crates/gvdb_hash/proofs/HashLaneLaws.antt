-- A hash that is kept as four sums goes on as a hash does.
use Rattle.std.proofs.Common.{ℕ, ◌+◌, ◌*◌, ◌/◌, ◌%◌, ◌≡◌, List, length, get_or, sym, ◌∙◌, ap, arith}
use Rattle.std.specs.Prelude.{fold}
use Rattle.std.proofs.Math.Nat.{add-mul-mod_self_right, mod-add-div'}
use Rattle.dconf_model.specs.Bytes.{hash_step}
use Rattle.gvdb_hash.proofs.HashFours.{Counts, four_in_sum}

-- as many times 2^32 as a sum is more than what is left of it
over : ℕ → ℕ → ℕ
over x s = x / 4294967296 + (x % 4294967296 + s) / 4294967296

parts : (x s : ℕ) → (x % 4294967296 + s) % 4294967296 + over x s * 4294967296 ≡ x + s
unfolding over
parts x s =
    let p = mod-add-div' x 4294967296 in
    let q = mod-add-div' (x % 4294967296 + s) 4294967296 in
    omega (arith, p, q)

-- numbers that differ by so many times 2^32
same_rest : (x y k : ℕ) → x + k * 4294967296 ≡ y → x % 4294967296 ≡ y % 4294967296
same_rest x y k e = sym (add-mul-mod_self_right x k 4294967296) ∙ ap (λ (n : ℕ). n % 4294967296) e

-- the four sums with four bytes more, joined
lanes_joined : (a b c d w x y z : ℕ)
    → ((a * 1185921 % 4294967296 + w) % 4294967296 * 35937 + (b * 1185921 % 4294967296 + x) % 4294967296 * 1089 + (c * 1185921 % 4294967296 + y) % 4294967296 * 33 + (d * 1185921 % 4294967296 + z) % 4294967296) % 4294967296
    ≡ ((a * 1185921 + w) * 35937 + (b * 1185921 + x) * 1089 + (c * 1185921 + y) * 33 + (d * 1185921 + z)) % 4294967296
lanes_joined a b c d w x y z =
    let p = parts (a * 1185921) w in
    let q = parts (b * 1185921) x in
    let r = parts (c * 1185921) y in
    let s = parts (d * 1185921) z in
    same_rest _ _ (over (a * 1185921) w * 35937 + over (b * 1185921) x * 1089 + over (c * 1185921) y * 33 + over (d * 1185921) z) (omega (arith, p, q, r, s))

pub lanes_go_on : (a b c d : ℕ) (four : List ℕ) (w x y z : ℕ) → length four ≡ 4 → Counts (get_or four 0 0) w → Counts (get_or four 1 0) x → Counts (get_or four 2 0) y → Counts (get_or four 3 0) z
    → ((a * 1185921 % 4294967296 + w) % 4294967296 * 35937 + (b * 1185921 % 4294967296 + x) % 4294967296 * 1089 + (c * 1185921 % 4294967296 + y) % 4294967296 * 33 + (d * 1185921 % 4294967296 + z) % 4294967296) % 4294967296
    ≡ fold hash_step ((a * 35937 + b * 1089 + c * 33 + d) % 4294967296) four
lanes_go_on a b c d four w x y z four_long ws xs ys zs =
    let h = a * 35937 + b * 1089 + c * 33 + d in
    let o = mod-add-div' h 4294967296 in
    lanes_joined a b c d w x y z
    ∙ (sym (same_rest (h % 4294967296 * 1185921 + w * 35937 + x * 1089 + y * 33 + z) _ (h / 4294967296 * 1185921) (omega (arith, o)))
    ∙ sym (four_in_sum (h % 4294967296) four w x y z four_long ws xs ys zs))

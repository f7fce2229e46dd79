-- The hash of a name, taken from its last byte on. What the bytes that are gone make of the hash of the others: so many
-- times that hash and so much more, modulo 2^32.
use Rattle.std.proofs.Common.{ℕ, ◌+◌, ◌*◌, ◌%◌, ◌^◌, ◌≡◌, ◌<◌, List, [], ◌∷◌, ◌++◌, sym, ◌∙◌, ap, arith}
use Rattle.std.specs.Prelude.{fold}
use Rattle.std.proofs.Math.Nat.{add-mod-mod, mod-add-mod}
use Rattle.std.proofs.lemmas.Nat.{mul-mod_first, mul-mod_second}
use Rattle.std.proofs.lemmas.List.Sums.{fold-append}
use Rattle.dconf_model.specs.Bytes.{hash_step, hash_of}

-- the factor and the summand when one byte more, taken as s, is gone
pub byte_is_gone : (m h s factor sum : ℕ) → ((h * 33 + s) % m * factor + sum) % m ≡ (h * (factor * 33 % m) + (sum + factor * s % m) % m) % m
byte_is_gone m h s factor sum =
    let before : ((h * 33 + s) % m * factor + sum) % m ≡ ((h * 33 + s) * factor + sum) % m =
    sym (mod-add-mod ((h * 33 + s) % m * factor) m sum) ∙ ap (λ x. (x + sum) % m) (mul-mod_first (h * 33 + s) factor m) ∙ mod-add-mod ((h * 33 + s) * factor) m sum in
    let now : (h * (factor * 33 % m) + (sum + factor * s % m) % m) % m ≡ (h * (factor * 33) + (sum + factor * s)) % m =
    ap (λ x. (h * (factor * 33 % m) + x) % m) (add-mod-mod sum (factor * s) m) ∙ add-mod-mod (h * (factor * 33 % m)) (sum + factor * s) m
    ∙ sym (mod-add-mod (h * (factor * 33 % m)) m (sum + factor * s)) ∙ ap (λ x. (x + (sum + factor * s)) % m) (mul-mod_second h (factor * 33) m)
    ∙ mod-add-mod (h * (factor * 33)) m (sum + factor * s) in
    let same : (h * 33 + s) * factor + sum ≡ h * (factor * 33) + (sum + factor * s) = omega arith in
    before ∙ ap (λ x. x % m) same ∙ sym now

small_from : (h : ℕ) (name : List ℕ) → h < 2 ^ 32 → fold hash_step h name < 2 ^ 32
small_from h [] lt = lt
small_from h (b ∷ bs) lt = small_from (hash_step h b) bs (omega arith)

-- a hash fits 32 bits
pub hash_small : (name : List ℕ) → hash_of name < 2 ^ 32
hash_small name = small_from 5381 name (omega arith)

-- at no byte gone the factor is 1 and the summand 0
pub none_is_gone : (name : List ℕ) → (hash_of name * 1 + 0) % 2 ^ 32 ≡ hash_of name
none_is_gone name = let small = hash_small name in omega arith

pub hash_of_last : (prefix : List ℕ) (b : ℕ) → hash_of (prefix ++ b ∷ []) ≡ hash_step (hash_of prefix) b
hash_of_last prefix b = fold-append hash_step 5381 prefix (b ∷ [])

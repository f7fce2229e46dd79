-- The hash of bytes that are taken by fours.
use Rattle.std.proofs.Common.{ℕ, zero, suc, ◌+◌, ◌*◌, ◌/◌, ◌%◌, ◌≡◌, List, [], ◌∷◌, length, get_or, take, drop, refl, sym, ◌∙◌, ap, ap₂, arith}
use Rattle.std.specs.Prelude.{fold}
use Rattle.std.specs.Simd.{first_chunks}
use Rattle.std.proofs.Math.Nat.{add-mod, mod-add-mod}
use Rattle.std.proofs.lemmas.Nat.{mul-mod_first}
use Rattle.std.proofs.lemmas.List.{take-append-drop, drop-drop}
use Rattle.std.proofs.lemmas.List.Sums.{fold-append}
use Rattle.dconf_model.specs.Bytes.{hash_step}

-- ---- sums modulo 2^32

inside : (x y : ℕ) → (x % 4294967296 * 33 + y) % 4294967296 ≡ (x * 33 + y) % 4294967296
inside x y =
    sym (mod-add-mod (x % 4294967296 * 33) 4294967296 y)
    ∙ (ap (λ (n : ℕ). (n + y) % 4294967296) (mul-mod_first x 33 4294967296)
    ∙ mod-add-mod (x * 33) 4294967296 y)

both : (x y : ℕ) → (x % 4294967296 + y % 4294967296) % 4294967296 ≡ (x + y) % 4294967296
both x y = sym (add-mod x y 4294967296)

-- step by step, and at once
by_steps : (h a b c d : ℕ) → ((((h * 33 + a) % 4294967296 * 33 + b) % 4294967296 * 33 + c) % 4294967296 * 33 + d) % 4294967296 ≡ (((((h * 33 + a) * 33 + b) * 33) + c) * 33 + d) % 4294967296
by_steps h a b c d =
    ap (λ (n : ℕ). ((n * 33 + c) % 4294967296 * 33 + d) % 4294967296) (inside (h * 33 + a) b)
    ∙ (ap (λ (n : ℕ). (n * 33 + d) % 4294967296) (inside ((h * 33 + a) * 33 + b) c)
    ∙ inside (((h * 33 + a) * 33 + b) * 33 + c) d)

pub at_once : (h a b c d : ℕ) → ((((h * 1185921 % 4294967296 + a * 35937 % 4294967296) % 4294967296 + b * 1089 % 4294967296) % 4294967296 + c * 33 % 4294967296) % 4294967296 + d) % 4294967296
    ≡ (h * 1185921 + a * 35937 + b * 1089 + c * 33 + d) % 4294967296
at_once h a b c d =
    ap (λ (n : ℕ). (((n + b * 1089 % 4294967296) % 4294967296 + c * 33 % 4294967296) % 4294967296 + d) % 4294967296) (both (h * 1185921) (a * 35937))
    ∙ (ap (λ (n : ℕ). ((n + c * 33 % 4294967296) % 4294967296 + d) % 4294967296) (both (h * 1185921 + a * 35937) (b * 1089))
    ∙ (ap (λ (n : ℕ). (n + d) % 4294967296) (both (h * 1185921 + a * 35937 + b * 1089) (c * 33))
    ∙ mod-add-mod (h * 1185921 + a * 35937 + b * 1089 + c * 33) 4294967296 d))

-- ---- four bytes

-- the number that a byte stands for
abbrev pub Counts : ℕ → ℕ → Type 0
Counts byte n = (hash : ℕ) → hash_step hash byte ≡ (hash * 33 + n) % 4294967296

four_steps : (h w x y z a b c d : ℕ) → Counts w a → Counts x b → Counts y c → Counts z d
    → hash_step (hash_step (hash_step (hash_step h w) x) y) z ≡ (h * 1185921 + a * 35937 + b * 1089 + c * 33 + d) % 4294967296
four_steps h w x y z a b c d wa xb yc zd =
    let same : ((((h * 33 + a) * 33 + b) * 33) + c) * 33 + d ≡ h * 1185921 + a * 35937 + b * 1089 + c * 33 + d = omega arith in
    zd (hash_step (hash_step (hash_step h w) x) y)
    ∙ (ap (λ (n : ℕ). (n * 33 + d) % 4294967296) (yc (hash_step (hash_step h w) x))
    ∙ (ap (λ (n : ℕ). ((n * 33 + c) % 4294967296 * 33 + d) % 4294967296) (xb (hash_step h w))
    ∙ (ap (λ (n : ℕ). (((n * 33 + b) % 4294967296 * 33 + c) % 4294967296 * 33 + d) % 4294967296) (wa h)
    ∙ (by_steps h a b c d ∙ ap (λ (n : ℕ). n % 4294967296) same))))

pub four_in_sum : (h : ℕ) (four : List ℕ) (a b c d : ℕ) → length four ≡ 4 → Counts (get_or four 0 0) a → Counts (get_or four 1 0) b → Counts (get_or four 2 0) c → Counts (get_or four 3 0) d
    → fold hash_step h four ≡ (h * 1185921 + a * 35937 + b * 1089 + c * 33 + d) % 4294967296
four_in_sum h (w ∷ x ∷ y ∷ z ∷ []) a b c d l wa xb yc zd = four_steps h w x y z a b c d wa xb yc zd
four_in_sum h _ a b c d l wa xb yc zd = absurd (omega (arith, l))

-- ---- groups of four, and the rest

by_fours : (count : ℕ) (h : ℕ) (bytes : List ℕ) → fold hash_step (fold (fold hash_step) h (first_chunks 4 count bytes)) (drop (4 * count) bytes) ≡ fold hash_step h bytes
by_fours zero h bytes = refl
by_fours (suc n) h bytes =
    let further : 4 * suc n ≡ 4 + 4 * n = omega arith in
    ap (λ (m : ℕ). fold hash_step (fold (fold hash_step) (fold hash_step h (take 4 bytes)) (first_chunks 4 n (drop 4 bytes))) (drop m bytes)) further
    ∙ (ap (λ (l : List ℕ). fold hash_step (fold (fold hash_step) (fold hash_step h (take 4 bytes)) (first_chunks 4 n (drop 4 bytes))) l) (sym (drop-drop (4 * n) 4 bytes))
    ∙ (by_fours n (fold hash_step h (take 4 bytes)) (drop 4 bytes)
    ∙ (sym (fold-append hash_step h (take 4 bytes) (drop 4 bytes)) ∙ ap (fold hash_step h) (take-append-drop 4 bytes))))

-- a hash of the fours, and then of the rest
pub joined_fours : (h middle whole : ℕ) (bytes back : List ℕ) (front : List (List ℕ)) → front ≡ first_chunks 4 (length bytes / 4) bytes → back ≡ drop (length bytes / 4 * 4) bytes
    → middle ≡ fold (fold hash_step) h front → whole ≡ fold hash_step middle back → whole ≡ fold hash_step h bytes
joined_fours h middle whole bytes back front cut rest first last =
    let turned : length bytes / 4 * 4 ≡ 4 * (length bytes / 4) = omega arith in
    last ∙ (ap₂ (fold hash_step) (first ∙ ap (fold (fold hash_step) h) cut) (rest ∙ ap (λ (n : ℕ). drop n bytes) turned) ∙ by_fours (length bytes / 4) h bytes)

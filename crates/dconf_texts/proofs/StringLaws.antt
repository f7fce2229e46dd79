-- Bytes, read character by character.
use Rattle.std.proofs.Common.{◌≡◌, ℕ, zero, suc, ◌<◌, ◌≤◌, List, [], ◌∷◌, ◌++◌, Option, Some, None, drop, length, length-drop, refl, sym, ap, ◌∙◌, arith}
use Rattle.std.proofs.Common.{append_assoc, append-nil}
use Rattle.std.specs.Prelude.{encode_utf8_all}
use Rattle.std.specs.Char.{encode_utf8}
use Rattle.bstr.specs.Utf8.{decoded, or_replacement}
use Rattle.bstr.proofs.lemmas.PieceLemmas.{piece-bounds}
use Rattle.dconf_texts.specs.Strings.{as_utf8, chars_from, chars_of, read_at_once}

-- so many bytes are read at once
pub some_read : (found : Option ℕ) (size : ℕ) → 1 ≤ size → 1 ≤ read_at_once found size
some_read None size h = omega arith
some_read (Some c) size h = h

abbrev step : List ℕ → ℕ
step bs = read_at_once (decoded bs).char (decoded bs).size

step-some : (bs : List ℕ) → 0 < length bs → 1 ≤ step bs
step-some bs pos = some_read (decoded bs).char (decoded bs).size (piece-bounds bs pos).0

nothing : (f : ℕ) → chars_from f [] ≡ []
unfolding chars_from
nothing zero = refl
nothing (suc f) = refl

same : (f g : ℕ) (bs : List ℕ) → length bs ≤ f → length bs ≤ g → chars_from f bs ≡ chars_from g bs
unfolding chars_from
same zero g [] a b = sym (nothing g)
same zero g (x ∷ xs) a b = absurd (omega arith)
same (suc f) zero [] a b = nothing (suc f)
same (suc f) zero (x ∷ xs) a b = absurd (omega arith)
same (suc f) (suc g) [] a b = refl
same (suc f) (suc g) (x ∷ xs) a b =
    let some = step-some (x ∷ xs) (omega arith) in
    let left = length-drop (step (x ∷ xs)) (x ∷ xs) in
    ap (λ l. or_replacement (decoded (x ∷ xs)).char ∷ l) (same f g (drop (step (x ∷ xs)) (x ∷ xs)) (omega arith) (omega arith))

-- the first character, and those of what is left
pub chars-step : (bs : List ℕ) → 0 < length bs → chars_of bs ≡ or_replacement (decoded bs).char ∷ chars_of (drop (step bs) bs)
unfolding chars_from
chars-step [] pos = absurd (omega arith)
chars-step (x ∷ xs) pos =
    let some = step-some (x ∷ xs) pos in
    let left = length-drop (step (x ∷ xs)) (x ∷ xs) in
    ap (λ l. or_replacement (decoded (x ∷ xs)).char ∷ l) (same (length xs) (length (drop (step (x ∷ xs)) (x ∷ xs))) (drop (step (x ∷ xs)) (x ∷ xs)) (omega arith) (omega arith))

pub no-chars : (bs : List ℕ) → length bs ≡ 0 → as_utf8 bs ≡ []
unfolding chars_from
no-chars [] e = refl
no-chars (x ∷ xs) e = absurd (omega (arith, e))

pub utf8-step : (bs : List ℕ) → 0 < length bs → as_utf8 bs ≡ encode_utf8 (or_replacement (decoded bs).char) ++ as_utf8 (drop (step bs) bs)
utf8-step bs pos = ap encode_utf8_all (chars-step bs pos)

-- ---- the loop: what is read, one more, and what is left

pub one-more : (bytes text new bs rest : List ℕ) (c size : ℕ) → text ++ as_utf8 bs ≡ as_utf8 bytes → 0 < length bs → new ≡ text ++ encode_utf8 c
    → c ≡ or_replacement (decoded bs).char → size ≡ read_at_once (decoded bs).char (decoded bs).size → rest ≡ drop size bs → new ++ as_utf8 rest ≡ as_utf8 bytes
one-more bytes text new bs rest c size before pos is char read left =
    let same_rest : as_utf8 rest ≡ as_utf8 (drop (step bs) bs) = ap as_utf8 left ∙ ap (λ n. as_utf8 (drop n bs)) read in
    let same_new : new ≡ text ++ encode_utf8 (or_replacement (decoded bs).char) = is ∙ ap (λ x. text ++ encode_utf8 x) char in
    ap (λ t. t ++ as_utf8 rest) same_new ∙ ap (λ r. (text ++ encode_utf8 (or_replacement (decoded bs).char)) ++ r) same_rest
    ∙ append_assoc text (encode_utf8 (or_replacement (decoded bs).char)) (as_utf8 (drop (step bs) bs)) ∙ ap (λ r. text ++ r) (sym (utf8-step bs pos)) ∙ before

pub all-read : (bytes text bs : List ℕ) → text ++ as_utf8 bs ≡ as_utf8 bytes → length bs ≡ 0 → text ≡ as_utf8 bytes
all-read bytes text bs before e = sym (append-nil text) ∙ ap (λ r. text ++ r) (sym (no-chars bs e)) ∙ before

-- A text of ASCII bytes with a zero byte behind them.
use Rattle.std.proofs.Common.{◌≡◌, ◌<◌, ℕ, true, false, ◌==◌, List, [], ◌∷◌, ◌++◌, length, Some, None, refl, arith, ne_eqb}
use Rattle.std.specs.Prelude.{IsUtf8}
use Rattle.std.specs.List.{list_all}
use Rattle.std.specs.Str.{IsAscii}
use Rattle.std.proofs.lemmas.Bool.{and_parts}
use Rattle.std.proofs.lemmas.Str.{IsUtf8-from_ascii}
use Rattle.std.proofs.lemmas.Str.Ascii.{IsAscii-nil, IsAscii-cons}
use Rattle.gv_model.specs.BasicValue.{text_in}
use Rattle.gv_view.specs.Texts.{utf8_in, is_ascii_char}
use Rattle.gv_view.proofs.AsciiTexts.{ascii_is_utf8}

low : (c : ℕ) → is_ascii_char c ≡ true → c < 128
low c h = grind arith

some : (c : ℕ) → is_ascii_char c ≡ true → (c == 0) ≡ false
some c h = let positive : 0 < c = grind arith in ne_eqb c 0 (λ e. omega (arith, positive, e))

are_ascii : (s : List ℕ) → list_all is_ascii_char s ≡ true → IsAscii s
are_ascii [] h = IsAscii-nil
are_ascii (c ∷ cs) h = let parts = and_parts (is_ascii_char c) (list_all is_ascii_char cs) h in IsAscii-cons c cs (low c parts.0) (are_ascii cs parts.1)

pub ascii_chars_are_utf8 : (s : List ℕ) → list_all is_ascii_char s ≡ true → IsUtf8 s
ascii_chars_are_utf8 s h = IsUtf8-from_ascii s (are_ascii s h)

before_zero : (s : List ℕ) → list_all is_ascii_char s ≡ true → text_in (s ++ 0 ∷ []) ≡ Some s
unfolding text_in
before_zero [] h = refl
before_zero (c ∷ []) h = let e = some c (and_parts (is_ascii_char c) true h).0 in rw e refl
before_zero (c ∷ d ∷ cs) h =
    let parts = and_parts (is_ascii_char c) (list_all is_ascii_char (d ∷ cs)) h in
    let e = some c parts.0 in
    let rest = before_zero (d ∷ cs) parts.1 in
    rw (e, rest) refl

pub short_text : (s : List ℕ) → list_all is_ascii_char s ≡ true → Some s ≡ utf8_in (s ++ 0 ∷ [])
short_text s h =
    let body = before_zero s h in
    let ascii = ascii_is_utf8 s (are_ascii s h) in
    rw (body, ascii) refl

pub no_bytes : (b : List ℕ) → length b ≡ 0 → None ≡ utf8_in b
unfolding text_in
no_bytes [] e = refl
no_bytes (c ∷ cs) e = absurd (omega (arith, e))

-- Texts of which each character stands for itself in its quotes.
use Rattle.std.proofs.Common.{◌≡◌, ◌<◌, ℕ, List, [], ◌∷◌, ◌++◌, Bool, true, false, ◌==◌, ◌&&◌, ◌||◌, nat_le, not, refl, ap, ◌∙◌, arith, chars}
use Rattle.std.specs.Prelude.{flat_map}
use Rattle.std.specs.List.{list_all, list_any}
use Rattle.std.specs.Str.{IsAscii}
use Rattle.std.proofs.lemmas.Bool.{leb-true, and_parts, or_parts}
use Rattle.std.proofs.lemmas.Str.{chars-IsAscii, encode_ascii}
use Rattle.std.proofs.lemmas.Str.Ascii.{IsAscii-nil, IsAscii-cons}
use Rattle.gv_model.specs.Quoted.{char_text, byte_text, quoted}
use Rattle.gv_syntax.specs.Printable.{is_printable}

-- what printable says of a byte
record IsAlone (q c : ℕ) : Type 0 where
  low : nat_le 32 c ≡ true
  high : nat_le c 126 ≡ true
  other : (c == q || c == 92) ≡ false

alone_by : (l h o : Bool) → (l && h && not o) ≡ true → (l ≡ true) × (h ≡ true) × (o ≡ false)
alone_by true true false e = (refl, refl, refl)
alone_by true true true e = absurd (let no : false ≡ true = e in cc)
alone_by true false o e = absurd (let no : false ≡ true = e in cc)
alone_by false h o e = absurd (let no : false ≡ true = e in cc)

is_alone : (q c : ℕ) → is_printable q c ≡ true → IsAlone q c
is_alone q c e =
    let parts = alone_by (nat_le 32 c) (nat_le c 126) (c == q || c == 92) e in
    record { low = parts.0; high = parts.1; other = parts.2 }

below : (c : ℕ) → nat_le c 126 ≡ true → c < 128
below c e = let small = leb-true c 126 e in omega (arith, small)

byte_alone : (q c : ℕ) → is_printable q c ≡ true → byte_text q c ≡ c ∷ []
byte_alone q c e =
    let alone = is_alone q c e in
    rw alone.low (rw alone.high (rw alone.other refl))

char_alone : (q c : ℕ) → is_printable q c ≡ true → char_text q c ≡ c ∷ []
char_alone q c e =
    let alone = is_alone q c e in
    rw alone.low (rw alone.high (rw alone.other (encode_ascii c (below c alone.high))))

each_alone : (f : ℕ → List ℕ) (q : ℕ) → ((c : ℕ) → is_printable q c ≡ true → f c ≡ c ∷ []) → (bytes : List ℕ) → list_all (is_printable q) bytes ≡ true → flat_map f bytes ≡ bytes
each_alone f q one [] e = refl
each_alone f q one (c ∷ bytes) e =
    let parts = and_parts (is_printable q c) (list_all (is_printable q) bytes) e in
    ap (λ (l : List ℕ). l ++ flat_map f bytes) (one c parts.0) ∙ ap (λ (l : List ℕ). c ∷ l) (each_alone f q one bytes parts.1)

alone_is_ascii : (q : ℕ) (bytes : List ℕ) → list_all (is_printable q) bytes ≡ true → IsAscii bytes
alone_is_ascii q [] e = IsAscii-nil
alone_is_ascii q (c ∷ bytes) e =
    let parts = and_parts (is_printable q c) (list_all (is_printable q) bytes) e in
    IsAscii-cons c bytes (below c (is_alone q c parts.0).high) (alone_is_ascii q bytes parts.1)

pub bytes_alone : (q : ℕ) (bytes : List ℕ) → list_all (is_printable q) bytes ≡ true → flat_map (byte_text q) bytes ≡ bytes
bytes_alone q bytes e = each_alone (byte_text q) q (byte_alone q) bytes e

pub chars_alone : (q : ℕ) (text : List ℕ) → list_all (is_printable q) text ≡ true → flat_map (char_text q) (chars text) ≡ text
chars_alone q text e =
    ap (flat_map (char_text q)) (chars-IsAscii text (alone_is_ascii q text e)) ∙ each_alone (char_text q) q (char_alone q) text e

-- such a text between two ' is as it is
no_quote : (s : List ℕ) → list_all (is_printable 39) s ≡ true → list_any (λ c. c == 39) s ≡ false
no_quote [] e = refl
no_quote (c ∷ s) e =
    let parts = and_parts (is_printable 39 c) (list_all (is_printable 39) s) e in
    let other = or_parts (c == 39) (c == 92) (is_alone 39 c parts.0).other in
    rw other.0 (no_quote s parts.1)

pub quoted_plain : (s : List ℕ) → list_all (is_printable 39) s ≡ true → quoted s ≡ 39 ∷ (s ++ 39 ∷ [])
quoted_plain s e = rw (no_quote s e) (ap (λ (l : List ℕ). 39 ∷ (l ++ 39 ∷ [])) (chars_alone 39 s e))

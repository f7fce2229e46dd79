-- Strings and byte strings in a printed text.
use Rattle.std.proofs.Common.{◌≡◌, ◌≤◌, ◌<◌, ◌⊎◌, ◌+◌, ◌-◌, ◌/◌, ◌%◌, ℕ, suc, Bool, true, false, cond, List, [], ◌∷◌, ◌++◌, length}
use Rattle.std.proofs.Common.{Option, Some, None, Result, Ok, Err, refl, sym, ap, ◌∙◌, subst, arith, append_assoc, append-nil, ◌==◌, ◌||◌, ◌&&◌, nat_lt, nat_le}
use Rattle.gv_model.proofs.StringParts.{choose, pick}
use mathlib.Core.Logic.{inl, inr}
use lib.Utf8.{encode, encodes}
use Rattle.std.specs.Prelude.{chars, flat_map}
use Rattle.std.specs.List.{AllByRecursion, list_any}
use Rattle.std.specs.Str.{IsUtf8}
use Rattle.std.proofs.lemmas.List.{length-append}
use Rattle.std.proofs.lemmas.Str.{encode_ascii, encodes-chars}
use Rattle.std.proofs.lemmas.Bool.{true≢false, or_parts, lt-ltb, ne_eqb, eq-eqb, eqb-true, eqb-false, ltb-true, ltb-false, leb-true, leb-false, and_parts}
use Rattle.gv_model.specs.Quoted.{escape_letter, escaped, four_hex, three_octal, plain, char_text, byte_text, quote_for, quoted, byte_string}
use Rattle.gv_model.specs.TextFault.{Fault}
use Rattle.gv_model.specs.Tokens.Token.{string_token, byte_string as byte_token}
use Rattle.gv_model.specs.Characters.{is_blank, prefix_of, is_digit_of}
use Rattle.gv_model.specs.Numerals.{number_after}
use Rattle.gv_model.specs.Strings.{string_from, with_part, with_prefix, quoted_token, part, bytes_after, escape_in, number_escape, octal_escape, letter_or_self, letter_meaning, at_most, is_scalar}
use Rattle.gv_model.specs.Strings.StringStep.{denotes, faulty}
use Rattle.gv_model.specs.TextFault.Cause.{bad_escape}
use Rattle.gv_model.specs.Lexing.{token_at, token_by, start}
use Rattle.gv_model.specs.Lexing.Start.{of_string, of_byte_string}
use Rattle.gv_model.proofs.PrintedNumbers.{IsHex, hex_digit}
use Rattle.gv_model.proofs.PrintedReads.{Free, token_free}

-- ---- pieces of a string

-- x stands for s in a string in these quotes, whatever follows
record IsPiece (of_bytes : Bool) (quote : ℕ) (x s : List ℕ) : Type 0 where
  steps : (from at : ℕ) (more : List ℕ) → string_from of_bytes quote from at 0 (x ++ more) ≡ with_prefix s (string_from of_bytes quote from (at + length x) 0 more)

no_prefix : (r : Result (List ℕ × ℕ) Fault) → r ≡ with_prefix [] r
no_prefix (Ok x) = refl
no_prefix (Err e) = refl

two_prefixes : (s t : List ℕ) (r : Result (List ℕ × ℕ) Fault) → with_prefix s (with_prefix t r) ≡ with_prefix (s ++ t) r
two_prefixes s t (Ok x) = ap (λ (y : List ℕ). Ok (y, x.1)) (sym (append_assoc s t x.0))
two_prefixes s t (Err e) = refl

no_piece : (of_bytes : Bool) (quote : ℕ) → IsPiece of_bytes quote [] []
no_piece of_bytes quote = record { steps = λ from at more. no_prefix (string_from of_bytes quote from at 0 more) ∙ (let z : at ≡ at + 0 = omega arith in ap (λ k. with_prefix [] (string_from of_bytes quote from k 0 more)) z) }

two_pieces : (of_bytes : Bool) (quote : ℕ) (x y s t : List ℕ) → IsPiece of_bytes quote x s → IsPiece of_bytes quote y t → IsPiece of_bytes quote (x ++ y) (s ++ t)
two_pieces of_bytes quote x y s t h g = record {
  steps = λ from at more.
      let n : at + length x + length y ≡ at + length (x ++ y) = omega (arith, length-append x y) in
      ap (string_from of_bytes quote from at 0) (append_assoc x y more) ∙ (h.steps from at (y ++ more) ∙ (ap (with_prefix s) (g.steps from (at + length x) more)
      ∙ (two_prefixes s t (string_from of_bytes quote from (at + length x + length y) 0 more) ∙ ap (λ k. with_prefix (s ++ t) (string_from of_bytes quote from k 0 more)) n)));
}

passed : (of_bytes : Bool) (quote from at : ℕ) (cs more : List ℕ) → string_from of_bytes quote from at (length cs) (cs ++ more) ≡ string_from of_bytes quote from (at + length cs) 0 more
unfolding string_from
passed of_bytes quote from at [] more = let z : at ≡ at + 0 = omega arith in ap (λ k. string_from of_bytes quote from k 0 more) z
passed of_bytes quote from at (c ∷ cs) more = passed of_bytes quote from (suc at) cs more ∙ (let z : suc at + length cs ≡ at + suc (length cs) = omega arith in ap (λ k. string_from of_bytes quote from k 0 more) z)

one_piece : (of_bytes : Bool) (quote c : ℕ) (cs s : List ℕ) → ((more : List ℕ) → part of_bytes quote c (cs ++ more) ≡ denotes s (suc (length cs))) → IsPiece of_bytes quote (c ∷ cs) s
unfolding string_from
one_piece of_bytes quote c cs s h = record {
  steps = λ from at more.
      let n : suc (length cs) - 1 ≡ length cs = omega arith in
      let z : suc at + length cs ≡ at + suc (length cs) = omega arith in
      ap (λ p. with_part at p (string_from of_bytes quote from (suc at) (bytes_after p) (cs ++ more))) (h more)
      ∙ (ap (λ k. with_prefix s (string_from of_bytes quote from (suc at) k (cs ++ more))) n ∙ (ap (with_prefix s) (passed of_bytes quote from (suc at) cs more) ∙ ap (λ k. with_prefix s (string_from of_bytes quote from k 0 more)) z));
}

-- ---- one character or byte

abbrev IsMark : ℕ → Type 0
IsMark c = (c ≡ 39) ⊎ (c ≡ 34)

mark_is : (P : ℕ → Type 0) (c : ℕ) → IsMark c → P 39 → P 34 → P c
mark_is P c (inl e) a b = subst P (sym e) a
mark_is P c (inr e) a b = subst P (sym e) b

-- after a backslash, in whatever quotes
backslash : (of_bytes : Bool) (quote : ℕ) (cs : List ℕ) → IsMark quote → part of_bytes quote 92 cs ≡ escape_in of_bytes cs
backslash of_bytes quote cs m = mark_is (λ q. part of_bytes q 92 cs ≡ escape_in of_bytes cs) quote m refl refl

mark_itself : (of_bytes : Bool) (c : ℕ) (more : List ℕ) → IsMark c → escape_in of_bytes (c ∷ more) ≡ denotes (c ∷ []) 2
mark_itself true c more m = mark_is (λ q. escape_in true (q ∷ more) ≡ denotes (q ∷ []) 2) c m refl refl
mark_itself false c more m = mark_is (λ q. escape_in false (q ∷ more) ≡ denotes (q ∷ []) 2) c m refl refl

slash_itself : (of_bytes : Bool) (more : List ℕ) → escape_in of_bytes (92 ∷ more) ≡ denotes (92 ∷ []) 2
slash_itself true more = refl
slash_itself false more = refl

itself : (of_bytes : Bool) (quote c : ℕ) (b : Bool) → IsMark quote → (c == quote) ≡ b → (b || c == 92) ≡ true → IsPiece of_bytes quote (92 ∷ c ∷ []) (c ∷ [])
itself of_bytes quote c true m e h =
    let same : c ≡ quote = eqb-true c quote e in
    one_piece of_bytes quote 92 (c ∷ []) (c ∷ []) (λ more. backslash of_bytes quote (c ∷ more) m ∙ mark_itself of_bytes c more (subst IsMark (sym same) m))
itself of_bytes quote c false m e h =
    let same : c ≡ 92 = eqb-true c 92 h in
    subst (λ (d : ℕ). IsPiece of_bytes quote (92 ∷ d ∷ []) (d ∷ [])) (sym same) (one_piece of_bytes quote 92 (92 ∷ []) (92 ∷ []) (λ more. backslash of_bytes quote (92 ∷ more) m ∙ slash_itself of_bytes more))

-- a byte that stands for itself
as_it_is : (of_bytes : Bool) (quote c : ℕ) → (c == quote) ≡ false → 0 < c → (c == 92) ≡ false → IsPiece of_bytes quote (c ∷ []) (c ∷ [])
as_it_is of_bytes quote c q p s = one_piece of_bytes quote c [] (c ∷ []) (λ more. rw (q, ne_eqb c 0 (λ e. omega (arith, p, e)), s) refl)

abbrev AreHigh : List ℕ → Type 0
AreHigh [] = Unit {0}
AreHigh (c ∷ cs) = (128 ≤ c) × AreHigh cs

below_high : (quote : ℕ) → IsMark quote → quote < 128
below_high quote m = mark_is (λ q. q < 128) quote m (omega arith) (omega arith)

high_pieces : (of_bytes : Bool) (quote : ℕ) (cs : List ℕ) → IsMark quote → AreHigh cs → IsPiece of_bytes quote cs cs
high_pieces of_bytes quote [] m h = no_piece of_bytes quote
high_pieces of_bytes quote (c ∷ cs) m h =
    let l = below_high quote m in
    let g = h.0 in
    two_pieces of_bytes quote (c ∷ []) cs (c ∷ []) cs
    (as_it_is of_bytes quote c (ne_eqb c quote (λ e. omega (arith, e, l, g))) (omega (arith, g)) (ne_eqb c 92 (λ e. omega (arith, e, g))))
    (high_pieces of_bytes quote cs m h.1)

encode_high : (c : ℕ) → 128 ≤ c → AreHigh (encode c)
unfolding encode
encode_high c h =
    choose AreHigh (nat_lt c 128) _ _ (λ e. let l = ltb-true c 128 e in absurd (omega (arith, h, l)))
    (λ e. choose AreHigh (nat_lt c 2048) _ _ (λ f. (omega arith, (omega arith, tt)))
    (λ f. choose AreHigh (nat_lt c 65536) _ _ (λ g. (omega arith, (omega arith, (omega arith, tt)))) (λ g. (omega arith, (omega arith, (omega arith, (omega arith, tt)))))))

-- a character of one byte, with a backslash where it wants one
one_plain : (of_bytes : Bool) (quote c : ℕ) → IsMark quote → 0 < c → IsPiece of_bytes quote (plain quote c (c ∷ [])) (c ∷ [])
one_plain of_bytes quote c m p =
    choose (λ x. IsPiece of_bytes quote x (c ∷ [])) (c == quote || c == 92) (92 ∷ c ∷ []) (c ∷ [])
    (λ e. itself of_bytes quote c (c == quote) m refl e)
    (λ e. apart (c == quote) refl e)
  where
    apart : (b : Bool) → (c == quote) ≡ b → (b || c == 92) ≡ false → IsPiece of_bytes quote (c ∷ []) (c ∷ [])
    apart true q e = absurd (true≢false e)
    apart false q e = as_it_is of_bytes quote c q p e

-- ---- escapes

letter_piece : (of_bytes : Bool) (quote c l n : ℕ) → IsMark quote → c ≡ n → ((more : List ℕ) → escape_in of_bytes (l ∷ more) ≡ denotes (n ∷ []) 2) → IsPiece of_bytes quote (92 ∷ l ∷ []) (c ∷ [])
letter_piece of_bytes quote c l n m e h = one_piece of_bytes quote 92 (l ∷ []) (c ∷ []) (λ more. backslash of_bytes quote (l ∷ more) m ∙ (h more ∙ ap (λ (d : ℕ). denotes (d ∷ []) 2) (sym e)))

letter_or : (of_bytes : Bool) (quote c : ℕ) (digits : List ℕ) → IsMark quote → IsPiece of_bytes quote (92 ∷ digits) (c ∷ []) → IsPiece of_bytes quote (escaped (escape_letter c) digits) (c ∷ [])
letter_or true quote c digits m h =
    let P = λ (o : Option ℕ). IsPiece true quote (escaped o digits) (c ∷ []) in
    pick P (c == 7) (Some 97) _ (λ e. letter_piece true quote c 97 7 m (eqb-true c 7 e) (λ more. refl))
    (pick P (c == 8) (Some 98) _ (λ e. letter_piece true quote c 98 8 m (eqb-true c 8 e) (λ more. refl))
    (pick P (c == 9) (Some 116) _ (λ e. letter_piece true quote c 116 9 m (eqb-true c 9 e) (λ more. refl))
    (pick P (c == 10) (Some 110) _ (λ e. letter_piece true quote c 110 10 m (eqb-true c 10 e) (λ more. refl))
    (pick P (c == 11) (Some 118) _ (λ e. letter_piece true quote c 118 11 m (eqb-true c 11 e) (λ more. refl))
    (pick P (c == 12) (Some 102) _ (λ e. letter_piece true quote c 102 12 m (eqb-true c 12 e) (λ more. refl))
    (pick P (c == 13) (Some 114) None (λ e. letter_piece true quote c 114 13 m (eqb-true c 13 e) (λ more. refl)) h))))))
letter_or false quote c digits m h =
    let P = λ (o : Option ℕ). IsPiece false quote (escaped o digits) (c ∷ []) in
    pick P (c == 7) (Some 97) _ (λ e. letter_piece false quote c 97 7 m (eqb-true c 7 e) (λ more. refl))
    (pick P (c == 8) (Some 98) _ (λ e. letter_piece false quote c 98 8 m (eqb-true c 8 e) (λ more. refl))
    (pick P (c == 9) (Some 116) _ (λ e. letter_piece false quote c 116 9 m (eqb-true c 9 e) (λ more. refl))
    (pick P (c == 10) (Some 110) _ (λ e. letter_piece false quote c 110 10 m (eqb-true c 10 e) (λ more. refl))
    (pick P (c == 11) (Some 118) _ (λ e. letter_piece false quote c 118 11 m (eqb-true c 11 e) (λ more. refl))
    (pick P (c == 12) (Some 102) _ (λ e. letter_piece false quote c 102 12 m (eqb-true c 12 e) (λ more. refl))
    (pick P (c == 13) (Some 114) None (λ e. letter_piece false quote c 114 13 m (eqb-true c 13 e) (λ more. refl)) h))))))

hex_step : (c d1 d2 d3 d4 : ℕ) (more : List ℕ) → IsHex (c / 4096) d1 → IsHex (c / 256 % 16) d2 → IsHex (c / 16 % 16) d3 → IsHex (c % 16) d4 → 0 < c → c < 55296
    → escape_in false (117 ∷ d1 ∷ d2 ∷ d3 ∷ d4 ∷ more) ≡ denotes (encode c) 6
unfolding prefix_of number_after at_most
hex_step c d1 d2 d3 d4 more a b d e p l =
    let p1 : is_digit_of 16 d1 ≡ true = rw a.value (lt-ltb (c / 4096) 16 (omega arith)) in
    let p2 : is_digit_of 16 d2 ≡ true = rw b.value (lt-ltb (c / 256 % 16) 16 (omega arith)) in
    let p3 : is_digit_of 16 d3 ≡ true = rw d.value (lt-ltb (c / 16 % 16) 16 (omega arith)) in
    let p4 : is_digit_of 16 d4 ≡ true = rw e.value (lt-ltb (c % 16) 16 (omega arith)) in
    let n : number_after 16 0 (d1 ∷ d2 ∷ d3 ∷ d4 ∷ []) ≡ c = rw (a.value, b.value, d.value, e.value) (omega arith) in
    let ds : prefix_of (is_digit_of 16) (at_most 4 (d1 ∷ d2 ∷ d3 ∷ d4 ∷ more)) ≡ d1 ∷ d2 ∷ d3 ∷ d4 ∷ [] = rw (p1, p2, p3, p4) refl in
    let s : is_scalar c ≡ true = rw (ne_eqb c 0 (λ q. omega (arith, q, p)), lt-ltb c 55296 l) refl in
    ap (number_escape 4) ds ∙ (ap (λ m. cond (is_scalar m) (denotes (encode m) 6) (faulty bad_escape 0 6)) n ∙ rw s refl)

hex_piece : (quote c : ℕ) → IsMark quote → 0 < c → c < 55296 → IsPiece false quote (92 ∷ four_hex c) (encode c)
hex_piece quote c m p l =
    one_piece false quote 92 (four_hex c) (encode c)
    (λ more. backslash false quote (four_hex c ++ more) m ∙ hex_step c _ _ _ _ more (hex_digit (c / 4096) (omega arith)) (hex_digit (c / 256 % 16) (omega arith)) (hex_digit (c / 16 % 16) (omega arith)) (hex_digit (c % 16) (omega arith)) p l)

octal_step : (c d1 d2 d3 : ℕ) (more : List ℕ) → IsHex (c / 64) d1 → IsHex (c / 8 % 8) d2 → IsHex (c % 8) d3 → c < 256
    → escape_in true (d1 ∷ d2 ∷ d3 ∷ more) ≡ denotes (c ∷ []) 4
unfolding prefix_of number_after at_most
octal_step c d1 d2 d3 more a b d l =
    let p1 : is_digit_of 8 d1 ≡ true = rw a.value (lt-ltb (c / 64) 8 (omega arith)) in
    let p2 : is_digit_of 8 d2 ≡ true = rw b.value (lt-ltb (c / 8 % 8) 8 (omega arith)) in
    let p3 : is_digit_of 8 d3 ≡ true = rw d.value (lt-ltb (c % 8) 8 (omega arith)) in
    let n : number_after 8 0 (d1 ∷ d2 ∷ d3 ∷ []) ≡ c = rw (a.value, b.value, d.value) (omega arith) in
    let ds : prefix_of (is_digit_of 8) (at_most 3 (d1 ∷ d2 ∷ d3 ∷ more)) ≡ d1 ∷ d2 ∷ d3 ∷ [] = rw (p1, p2, p3) refl in
    let s : nat_lt c 256 ≡ true = lt-ltb c 256 l in
    ap (λ b. cond b (octal_escape (prefix_of (is_digit_of 8) (at_most 3 (d1 ∷ d2 ∷ d3 ∷ more)))) (letter_or_self (letter_meaning d1) d1)) p1
    ∙ (ap octal_escape ds ∙ (ap (λ m. cond (nat_lt m 256) (denotes (m ∷ []) 4) (faulty bad_escape 0 4)) n ∙ rw s refl))

octal_piece : (quote c : ℕ) → IsMark quote → c < 256 → IsPiece true quote (92 ∷ three_octal c) (c ∷ [])
octal_piece quote c m l =
    one_piece true quote 92 (three_octal c) (c ∷ [])
    (λ more. backslash true quote (three_octal c ++ more) m ∙ octal_step c _ _ _ more (hex_digit (c / 64) (omega arith)) (hex_digit (c / 8 % 8) (omega arith)) (hex_digit (c % 8) (omega arith)) l)

-- ---- characters and bytes

byte_piece : (quote c : ℕ) → IsMark quote → 0 < c → c < 256 → IsPiece true quote (byte_text quote c) (c ∷ [])
byte_piece quote c m p l =
    choose (λ x. IsPiece true quote x (c ∷ [])) (nat_le 32 c && nat_le c 126) (plain quote c (c ∷ [])) (escaped (escape_letter c) (three_octal c))
    (λ e. one_plain true quote c m p)
    (λ e. letter_or true quote c (three_octal c) m (octal_piece quote c m l))

-- of the characters that print as themselves
low_plain : (quote c : ℕ) → IsMark quote → 0 < c → c < 128 → IsPiece false quote (plain quote c (encode c)) (encode c)
low_plain quote c m p l = subst (λ (x : List ℕ). IsPiece false quote (plain quote c x) x) (sym (encode_ascii c l)) (one_plain false quote c m p)

high_plain : (quote c : ℕ) → IsMark quote → 160 ≤ c → IsPiece false quote (plain quote c (encode c)) (encode c)
high_plain quote c m h =
    let l = below_high quote m in
    rw (ne_eqb c quote (λ e. omega (arith, e, l, h)), ne_eqb c 92 (λ e. omega (arith, e, h))) (high_pieces false quote (encode c) m (encode_high c (omega (arith, h))))

plain_piece : (quote c : ℕ) (a b : Bool) → IsMark quote → 0 < c → (nat_le 32 c && nat_le c 126) ≡ a → nat_le 160 c ≡ b → (a || b) ≡ true → IsPiece false quote (plain quote c (encode c)) (encode c)
plain_piece quote c true b m p e f h = let l = leb-true c 126 (and_parts (nat_le 32 c) (nat_le c 126) e).1 in low_plain quote c m p (omega arith)
plain_piece quote c false b m p e f h = high_plain quote c m (leb-true 160 c (f ∙ h))

-- the letters are those of ASCII
letter_piece_or : (quote c : ℕ) → IsMark quote → 0 < c → c < 160 → IsPiece false quote (escaped (escape_letter c) (four_hex c)) (encode c)
letter_piece_or quote c m p l = go (nat_lt c 128) refl
  where
    no_letter : 128 ≤ c → escape_letter c ≡ None
    no_letter h =
        rw (
          ne_eqb c 7 (λ e. omega (arith, e, h)),
          ne_eqb c 8 (λ e. omega (arith, e, h)),
          ne_eqb c 9 (λ e. omega (arith, e, h)),
          ne_eqb c 10 (λ e. omega (arith, e, h)),
          ne_eqb c 11 (λ e. omega (arith, e, h)),
          ne_eqb c 12 (λ e. omega (arith, e, h)),
          ne_eqb c 13 (λ e. omega (arith, e, h)),
        ) refl

    go : (b : Bool) → nat_lt c 128 ≡ b → IsPiece false quote (escaped (escape_letter c) (four_hex c)) (encode c)
    go true e =
        let one : encode c ≡ c ∷ [] = encode_ascii c (ltb-true c 128 e) in
        subst (λ (x : List ℕ). IsPiece false quote (escaped (escape_letter c) (four_hex c)) x) (sym one)
        (letter_or false quote c (four_hex c) m (subst (λ (x : List ℕ). IsPiece false quote (92 ∷ four_hex c) x) one (hex_piece quote c m p (omega arith))))
    go false e =
        subst (λ (o : Option ℕ). IsPiece false quote (escaped o (four_hex c)) (encode c)) (sym (no_letter (ltb-false c 128 e))) (hex_piece quote c m p (omega arith))

char_piece : (quote c : ℕ) → IsMark quote → 0 < c → IsPiece false quote (char_text quote c) (encode c)
char_piece quote c m p =
    choose (λ x. IsPiece false quote x (encode c)) ((nat_le 32 c && nat_le c 126) || nat_le 160 c) (plain quote c (encode c)) (escaped (escape_letter c) (four_hex c))
    (λ e. plain_piece quote c _ _ m p refl refl e)
    (λ e. let l = leb-false 160 c ((or_parts (nat_le 32 c && nat_le c 126) (nat_le 160 c) e).1) in letter_piece_or quote c m p l)

-- ---- all of them

abbrev AllAbove : List ℕ → Type 0
AllAbove [] = Unit {0}
AllAbove (c ∷ cs) = (0 < c) × AllAbove cs

chars_pieces : (quote : ℕ) (cs : List ℕ) → IsMark quote → AllAbove cs → IsPiece false quote (flat_map (char_text quote) cs) (encodes cs)
chars_pieces quote [] m h = no_piece false quote
chars_pieces quote (c ∷ cs) m h = two_pieces false quote (char_text quote c) (flat_map (char_text quote) cs) (encode c) (encodes cs) (char_piece quote c m h.0) (chars_pieces quote cs m h.1)

abbrev pub AllBytes : List ℕ → Type 0
AllBytes [] = Unit {0}
AllBytes (c ∷ cs) = (0 < c) × (c < 256) × AllBytes cs

bytes_pieces : (quote : ℕ) (cs : List ℕ) → IsMark quote → AllBytes cs → IsPiece true quote (flat_map (byte_text quote) cs) cs
bytes_pieces quote [] m h = no_piece true quote
bytes_pieces quote (c ∷ cs) m h = two_pieces true quote (byte_text quote c) (flat_map (byte_text quote) cs) (c ∷ []) cs (byte_piece quote c m h.0 h.1) (bytes_pieces quote cs m h.2)

-- ---- tokens

closed : (of_bytes : Bool) (quote from at : ℕ) (more : List ℕ) → string_from of_bytes quote from at 0 (quote ∷ more) ≡ Ok ([], suc at)
unfolding string_from
closed of_bytes quote from at more = rw (eq-eqb quote quote refl) refl

whole_string : (of_bytes : Bool) (quote from at : ℕ) (x s more : List ℕ) → IsPiece of_bytes quote x s → string_from of_bytes quote from at 0 (x ++ quote ∷ more) ≡ Ok (s, suc (at + length x))
whole_string of_bytes quote from at x s more h =
    h.steps from at (quote ∷ more) ∙ (ap (with_prefix s) (closed of_bytes quote from (at + length x) more) ∙ ap (λ (y : List ℕ). Ok (y, suc (at + length x))) (append-nil s))

mark_start : (quote : ℕ) (cs : List ℕ) → IsMark quote → start quote cs ≡ of_string
mark_start quote cs m = mark_is (λ q. start q cs ≡ of_string) quote m refl refl

string_at : (of_bytes : Bool) (quote from at n : ℕ) (x s rest : List ℕ) → IsPiece of_bytes quote x s → suc (at + length x) ≡ n → string_from of_bytes quote from at 0 ((x ++ quote ∷ []) ++ rest) ≡ Ok (s, n)
string_at of_bytes quote from at n x s rest h e =
    ap (string_from of_bytes quote from at 0) (append_assoc x (quote ∷ []) rest) ∙ (whole_string of_bytes quote from at x s rest h ∙ ap (λ (k : ℕ). Ok (s, k)) e)

string_free : (quote : ℕ) (x s : List ℕ) → IsMark quote → IsPiece false quote x s → Free (quote ∷ (x ++ quote ∷ [])) (string_token s ∷ [])
unfolding token_at
string_free quote x s m h =
    token_free quote (x ++ quote ∷ []) (string_token s) (mark_is (λ q. is_blank q ≡ false) quote m refl refl)
    (λ at rest.
    let n : suc (suc at + length x) ≡ at + suc (length (x ++ quote ∷ [])) = omega (arith, length-append x (quote ∷ [])) in
    let a : token_at at quote ((x ++ quote ∷ []) ++ rest) ≡ quoted_token string_token at (string_from false quote at (suc at) 0 ((x ++ quote ∷ []) ++ rest))
    = ap (λ k. token_by k at quote ((x ++ quote ∷ []) ++ rest)) (mark_start quote ((x ++ quote ∷ []) ++ rest) m) in
    a ∙ ap (quoted_token string_token at) (string_at false quote at (suc at) (at + suc (length (x ++ quote ∷ []))) x s rest h n))

bytes_free : (quote : ℕ) (x s : List ℕ) → IsMark quote → IsPiece true quote x s → Free (98 ∷ quote ∷ (x ++ quote ∷ [])) (byte_token s ∷ [])
unfolding token_at
bytes_free quote x s m h =
    token_free 98 (quote ∷ (x ++ quote ∷ [])) (byte_token s) refl
    (λ at rest.
    let n : suc (suc (suc at) + length x) ≡ at + suc (suc (length (x ++ quote ∷ []))) = omega (arith, length-append x (quote ∷ [])) in
    let a : token_at at 98 (quote ∷ ((x ++ quote ∷ []) ++ rest)) ≡ quoted_token byte_token at (string_from true quote (suc at) (suc (suc at)) 0 ((x ++ quote ∷ []) ++ rest))
    = ap (λ k. token_by k at 98 (quote ∷ ((x ++ quote ∷ []) ++ rest))) (mark_is (λ q. start 98 (q ∷ ((x ++ quote ∷ []) ++ rest)) ≡ of_byte_string) quote m refl refl) in
    a ∙ ap (quoted_token byte_token at) (string_at true quote (suc at) (suc (suc at)) (at + suc (suc (length (x ++ quote ∷ [])))) x s rest h n))

quote_is : (s : List ℕ) → IsMark (quote_for s)
quote_is s = go (list_any (λ c. c == 39) s)
  where
    go : (b : Bool) → IsMark (cond b 34 39)
    go true = inr refl
    go false = inl refl

-- a character that isn't zero, where no byte is
above_of : (cs : List ℕ) → AllByRecursion (λ c. 0 < c) (encodes cs) → AllAbove cs
above_of [] h = tt
above_of (c ∷ cs) h = (first (c == 0) refl, above_of cs (rest (encode c) (encodes cs) h))
  where
    rest : (x y : List ℕ) → AllByRecursion (λ c. 0 < c) (x ++ y) → AllByRecursion (λ c. 0 < c) y
    rest [] y h = h
    rest (d ∷ x) y h = rest x y h.1

    first : (b : Bool) → (c == 0) ≡ b → 0 < c
    first true e =
        let z : c ≡ 0 = eqb-true c 0 e in
        let g = subst (λ (x : List ℕ). AllByRecursion (λ d. 0 < d) (x ++ encodes cs)) (encode_ascii c (omega (arith, z))) h in g.0
    first false e = let f : c ≡ 0 → ⊥ = eqb-false c 0 e in omega arith

pub quoted_free : (s : List ℕ) → IsUtf8 s → AllByRecursion (λ c. 0 < c) s → Free (quoted s) (string_token s ∷ [])
quoted_free s u h =
    let e : encodes (chars s) ≡ s = encodes-chars s u in
    string_free (quote_for s) (flat_map (char_text (quote_for s)) (chars s)) s (quote_is s)
    (subst (λ (x : List ℕ). IsPiece false (quote_for s) (flat_map (char_text (quote_for s)) (chars s)) x) e (chars_pieces (quote_for s) (chars s) (quote_is s) (above_of (chars s) (subst (AllByRecursion (λ c. 0 < c)) (sym e) h))))

pub byte_string_free : (s : List ℕ) → AllBytes s → Free (byte_string s) (byte_token s ∷ [])
byte_string_free s h = bytes_free (quote_for s) (flat_map (byte_text (quote_for s)) s) s (quote_is s) (bytes_pieces (quote_for s) s (quote_is s) h)

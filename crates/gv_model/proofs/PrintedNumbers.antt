-- Numbers in a printed text.
use Rattle.std.proofs.Common.{◌≡◌, ◌≤◌, ◌<◌, ◌+◌, ◌-◌, ◌*◌, ◌/◌, ◌%◌, ◌^◌, ℕ, zero, suc, Bool, true, false, cond, List, [], ◌∷◌, ◌++◌, get_or, Some, refl, ap, ◌∙◌, subst, arith, ◌==◌, ◌||◌, nat_lt, min}
use Rattle.std.specs.Prelude.{codes, decimal, ℤ, pos, negsuc}
use Rattle.std.specs.Fmt.{signed_decimal}
use Rattle.std.proofs.lemmas.Fmt.{decimal_by_steps, decimal_digit, first_decimal}
use Rattle.std.proofs.lemmas.Bool.{true≢false, or_parts, lt-ltb, le-leb, lt-leb, ne_eqb, ltb-true, ltb-false}
use Rattle.gv_model.specs.Ty.{Basic}
use Rattle.gv_model.specs.Ty.Basic.{boolean, byte, int16, uint16, int32, uint32, int64, uint64, handle, double, string, path, signature}
use Rattle.gv_model.specs.Tree.Tree.{number}
use Rattle.gv_model.specs.Quoted.{digit}
use Rattle.gv_model.specs.Printed.{figures, hex_byte}
use Rattle.gv_model.specs.Tokens.Token.{integer_token}
use Rattle.gv_model.specs.Characters.{prefix_of, after_prefix, is_blank, is_word_byte, is_sign, digit_value, is_digit_of}
use Rattle.gv_model.specs.Numerals.{run_after, number_after, number_of, number_of_base, number_at, number_token, without_sign}
use Rattle.gv_model.specs.Lexing.{token_at, token_by, start}
use Rattle.gv_model.specs.Lexing.Start.{of_number}
use Rattle.gv_model.specs.Syntax.Syntax.{truth}
use Rattle.gv_model.specs.Grammar.{tokens_of}
use Rattle.gv_model.proofs.PrintedValues.{IsSigned, read_signed}
use Rattle.gv_model.proofs.PrintedSyntax.{signed_syntax, figures_syntax, Printable}
use Rattle.gv_model.proofs.PrintedReads.{Reads, Ends, token_reads}
use Rattle.gv_model.proofs.PrintedMarks.{reads_true, reads_false}

-- ---- a run of letters and digits

abbrev Each : (ℕ → Bool) → List ℕ → Type 0
Each f [] = Unit {0}
Each f (c ∷ cs) = (f c ≡ true) × Each f cs

run_whole : (hex : Bool) (c : ℕ) (ds rest : List ℕ) → Each is_word_byte ds → Ends rest → run_after hex c (ds ++ rest) ≡ ds
unfolding run_after
run_whole hex c [] [] h e = refl
run_whole hex c [] (d ∷ ds) h e =
    let p = or_parts (is_word_byte d) (d == 46 || is_sign d) e in
    let q = or_parts (d == 46) (is_sign d) p.1 in
    rw (p.0, q.0, q.1) refl
run_whole hex c (d ∷ ds) rest h e = rw h.0 (ap (λ r. d ∷ r) (run_whole hex d ds rest h.1 e))

number_reads : (c : ℕ) (cs : List ℕ) (n : ℕ) → is_blank c ≡ false → ((rest : List ℕ) → start c rest ≡ of_number) → Each is_word_byte cs → number_of (without_sign (c ∷ cs)) ≡ Some n
    → Reads (c ∷ cs) (integer_token (c == 45) n ∷ [])
unfolding token_at
number_reads c cs n b s w e =
    token_reads c cs (integer_token (c == 45) n) b
    (λ at rest f. ap (λ k. token_by k at c (cs ++ rest)) (s (cs ++ rest)) ∙ (ap (λ r. number_at at (c ∷ r)) (run_whole _ c cs rest w f) ∙ ap (number_token at (c ∷ cs)) e))

-- ---- digits

after_whole : (f : ℕ → Bool) (ds : List ℕ) → Each f ds → after_prefix f ds ≡ []
unfolding prefix_of
after_whole f [] h = refl
after_whole f (c ∷ cs) h = rw h.0 (after_whole f cs h.1)

of_base : (base c : ℕ) (cs : List ℕ) (n : ℕ) → Each (is_digit_of base) (c ∷ cs) → number_after base 0 (c ∷ cs) ≡ n → n < 2 ^ 64 → number_of_base base (c ∷ cs) ≡ Some n
of_base base c cs n h e l = rw (after_whole (is_digit_of base) (c ∷ cs) h) (let z : min (number_after base 0 (c ∷ cs)) (2 ^ 64) ≡ n = omega (arith, e, l) in ap Some z)

record IsDigit (c : ℕ) : Type 0 where
  low : 48 ≤ c
  high : c ≤ 57

abbrev AreDigits : List ℕ → Type 0
AreDigits [] = Unit {0}
AreDigits (c ∷ cs) = IsDigit c × AreDigits cs

digit_value_is : (c : ℕ) → IsDigit c → digit_value c ≡ c - 48
digit_value_is c h = rw (le-leb 48 c h.low, le-leb c 57 h.high) refl

digit_word : (c : ℕ) → IsDigit c → is_word_byte c ≡ true
digit_word c h = let a = h.low in let b = h.high in rw (lt-leb 65 c (omega arith), lt-leb 97 c (omega arith), le-leb 48 c h.low, le-leb c 57 h.high) refl

digit_start : (c : ℕ) → IsDigit c → (rest : List ℕ) → start c rest ≡ of_number
digit_start c h rest =
    let a = h.low in let b = h.high in
    rw (ne_eqb c 39 (λ e. omega (arith, e)), ne_eqb c 34 (λ e. omega (arith, e)), ne_eqb c 98 (λ e. omega (arith, e)), lt-leb 65 c (omega arith), lt-leb 97 c (omega arith), le-leb 48 c h.low, le-leb c 57 h.high) refl

digit_no_blank : (c : ℕ) → IsDigit c → is_blank c ≡ false
digit_no_blank c h =
    let a = h.low in
    rw (ne_eqb c 32 (λ e. omega (arith, e)), ne_eqb c 9 (λ e. omega (arith, e)), ne_eqb c 10 (λ e. omega (arith, e)), ne_eqb c 13 (λ e. omega (arith, e)), ne_eqb c 12 (λ e. omega (arith, e))) refl

digits_words : (ds : List ℕ) → AreDigits ds → Each is_word_byte ds
digits_words [] h = tt
digits_words (c ∷ cs) h = (digit_word c h.0, digits_words cs h.1)

digits_decimal : (ds : List ℕ) → AreDigits ds → Each (is_digit_of 10) ds
digits_decimal [] h = tt
digits_decimal (c ∷ cs) h = (let a = h.0.high in rw (digit_value_is c h.0) (lt-ltb (c - 48) 10 (omega arith)), digits_decimal cs h.1)

digits_append : (xs : List ℕ) (c : ℕ) → AreDigits xs → IsDigit c → AreDigits (xs ++ c ∷ [])
digits_append [] c h d = (d, tt)
digits_append (x ∷ xs) c h d = (h.0, digits_append xs c h.1 d)

after_append : (base m : ℕ) (xs : List ℕ) (c : ℕ) → number_after base m (xs ++ c ∷ []) ≡ number_after base m xs * base + digit_value c
unfolding number_after
after_append base m [] c = refl
after_append base m (x ∷ xs) c = after_append base (m * base + digit_value x) xs c

record IsDecimal (n : ℕ) (ds : List ℕ) : Type 0 where
  digits : AreDigits ds
  value : number_after 10 0 ds ≡ n

decimal_is : (n : ℕ) → n < 2 ^ 64 → IsDecimal n (decimal n)
unfolding number_after
decimal_is n h = decimal_by_steps IsDecimal one more n h
  where
    one : (n : ℕ) → n < 10 → IsDecimal n ((48 + n) ∷ [])
    one n h =
        let d : IsDigit (48 + n) = record { low = omega arith; high = omega arith } in
        record { digits = (d, tt); value = rw (digit_value_is (48 + n) d) (omega arith) }

    more : (n : ℕ) (ds : List ℕ) → 10 ≤ n → IsDecimal (n / 10) ds → IsDecimal n (ds ++ (48 + n % 10) ∷ [])
    more n ds h i =
        let d : IsDigit (48 + n % 10) = record { low = omega arith; high = omega arith } in
        record {
          digits = digits_append ds (48 + n % 10) i.digits d;
          value = rw (after_append 10 0 ds (48 + n % 10), digit_value_is (48 + n % 10) d, i.value) (omega arith);
        }

number_from : (n : ℕ) (ds : List ℕ) → IsDecimal n ds → n < 2 ^ 64 → 48 < get_or ds 0 0 → number_of ds ≡ Some n
number_from n [] d l f = absurd (omega arith)
number_from n (c ∷ cs) d l f = rw (ne_eqb c 48 (λ e. omega (arith, e))) (of_base 10 c cs n (digits_decimal (c ∷ cs) d.digits) d.value l)

number_zero : number_of (48 ∷ []) ≡ Some 0
unfolding prefix_of number_after
number_zero = refl

-- what is written in decimal digits is that number
number_decimal : (n : ℕ) → n < 2 ^ 64 → number_of (decimal n) ≡ Some n
number_decimal zero l = ap number_of (decimal_digit 0 (omega arith)) ∙ number_zero
number_decimal (suc n) l = number_from (suc n) (decimal (suc n)) (decimal_is (suc n) l) l (first_decimal (suc n) (omega arith) l)

plus_reads : (n : ℕ) (ds : List ℕ) → AreDigits ds → number_of ds ≡ Some n → Reads ds (integer_token false n ∷ [])
plus_reads n [] h e = absurd (no e)
  where
    no : number_of [] ≡ Some n → ⊥
    no e = cc
plus_reads n (c ∷ cs) h e =
    let a = h.0.low in
    let minus : (c == 45) ≡ false = ne_eqb c 45 (λ q. omega (arith, q)) in
    let plus : (c == 43) ≡ false = ne_eqb c 43 (λ q. omega (arith, q)) in
    subst (λ (b : Bool). Reads (c ∷ cs) (integer_token b n ∷ [])) minus
    (number_reads c cs n (digit_no_blank c h.0) (digit_start c h.0) (digits_words cs h.1) (rw (plus, minus) e))

decimal_reads : (n : ℕ) → n < 2 ^ 64 → Reads (decimal n) (integer_token false n ∷ [])
decimal_reads n l = plus_reads n (decimal n) (decimal_is n l).digits (number_decimal n l)

minus_reads : (n : ℕ) → n < 2 ^ 64 → Reads (45 ∷ decimal n) (integer_token true n ∷ [])
minus_reads n l = number_reads 45 (decimal n) n refl (λ rest. refl) (digits_words (decimal n) (decimal_is n l).digits) (number_decimal n l)

signed_reads : (half whole n : ℕ) (z : ℤ) → half ≤ 2 ^ 63 → IsSigned half whole n z → Reads (signed_decimal z) (tokens_of (signed_syntax z))
unfolding tokens_of
signed_reads half whole n (pos m) h i = decimal_reads m (omega (arith, h, i.0, i.1))
signed_reads half whole n (negsuc m) h i = minus_reads (suc m) (omega (arith, h, i.1))

-- ---- a byte in two digits

pub record IsHex (d c : ℕ) : Type 0 where
  pub value : digit_value c ≡ d
  pub a_word : is_word_byte c ≡ true

pub hex_digit : (d : ℕ) → d < 16 → IsHex d (digit d)
hex_digit d h = go (nat_lt d 10) refl
  where
    go : (b : Bool) → nat_lt d 10 ≡ b → IsHex d (cond b (48 + d) (87 + d))
    go true e =
        let l = ltb-true d 10 e in
        let i : IsDigit (48 + d) = record { low = omega arith; high = omega arith } in
        record { value = digit_value_is (48 + d) i ∙ omega arith; a_word = digit_word (48 + d) i }
    go false e =
        let l = ltb-false d 10 e in
        record {
          value = rw (le-leb 48 (87 + d) (omega arith), lt-leb (87 + d) 57 (omega arith), le-leb 97 (87 + d) (omega arith), le-leb (87 + d) 102 (omega arith)) (omega arith);
          a_word = rw (le-leb 65 (87 + d) (omega arith), lt-leb (87 + d) 90 (omega arith), le-leb 97 (87 + d) (omega arith), le-leb (87 + d) 122 (omega arith)) refl;
        }

hex_is : (n h l : ℕ) → IsHex (n / 16) h → IsHex (n % 16) l → n < 256 → number_of (48 ∷ 120 ∷ h ∷ l ∷ []) ≡ Some n
unfolding number_after
hex_is n h l a b lt =
    let p : is_digit_of 16 h ≡ true = rw a.value (lt-ltb (n / 16) 16 (omega arith)) in
    let q : is_digit_of 16 l ≡ true = rw b.value (lt-ltb (n % 16) 16 (omega arith)) in
    of_base 16 h (l ∷ []) n (p, (q, tt)) (rw (a.value, b.value) (omega arith)) (omega arith)

byte_reads : (n : ℕ) → n < 256 → Reads (hex_byte n) (integer_token false n ∷ [])
byte_reads n lt =
    let a = hex_digit (n / 16) (omega arith) in
    let b = hex_digit (n % 16) (omega arith) in
    number_reads 48 (120 ∷ digit (n / 16) ∷ digit (n % 16) ∷ []) n refl (λ rest. refl) (refl, (a.a_word, (b.a_word, tt))) (hex_is n (digit (n / 16)) (digit (n % 16)) a b lt)

-- ---- all of them

truth_reads : (b : Bool) → Reads (cond b (codes "false") (codes "true")) (tokens_of (cond b (truth false) (truth true)))
unfolding tokens_of
truth_reads true = reads_false
truth_reads false = reads_true

pub figures_read : (k : Basic) (n : ℕ) → Printable (number k n) → Reads (figures k n) (tokens_of (figures_syntax k n))
unfolding tokens_of
figures_read boolean n p = truth_reads (n == 0)
figures_read byte n p = byte_reads n p.0
figures_read int16 n p = signed_reads 32768 65536 n _ (omega arith) (read_signed 32768 65536 n (nat_lt n 32768) refl refl p.0)
figures_read uint16 n p = decimal_reads n (omega (arith, p.0))
figures_read int32 n p = signed_reads 2147483648 4294967296 n _ (omega arith) (read_signed 2147483648 4294967296 n (nat_lt n 2147483648) refl refl p.0)
figures_read uint32 n p = decimal_reads n (omega (arith, p.0))
figures_read handle n p = signed_reads 2147483648 4294967296 n _ (omega arith) (read_signed 2147483648 4294967296 n (nat_lt n 2147483648) refl refl p.0)
figures_read int64 n p = signed_reads 9223372036854775808 18446744073709551616 n _ (omega arith) (read_signed 9223372036854775808 18446744073709551616 n (nat_lt n 9223372036854775808) refl refl p.0)
figures_read uint64 n p = decimal_reads n p.0
figures_read double n p = absurd (true≢false p.1)
figures_read string n p = absurd p.0
figures_read path n p = absurd p.0
figures_read signature n p = absurd p.0

-- The strings in a text of UTF-8 are UTF-8, and its byte strings are bytes.
use Rattle.std.specs.Prelude.{◌≡◌, ◌⊎◌, ◌<◌, ◌≤◌, ℕ, zero, suc, ◌+◌, ◌/◌, Bool, true, false, cond, nat_lt, ◌==◌, ◌&&◌, List, [], ◌∷◌, ◌++◌, length, drop, Option, Some, None, refl, encode_utf8}
use Rattle.std.specs.List.{AllByRecursion}
use Rattle.std.specs.Str.{IsUtf8}
use lib.Utf8.{scalar, scalars, encode as encode_char, encodes, next}
use Rattle.std.proofs.Common.{sym, ap, subst, ◌∙◌, inl, inr, arith, get_or, append-nil, append_assoc, ltb-true, ne_eqb, drop_at}
use Rattle.std.proofs.lemmas.Bool.{and_parts, cases_lt, eqb-true}
use Rattle.std.proofs.lemmas.Str.{IsUtf8-append, IsUtf8-nil, IsUtf8-encode, IsUtf8-from_ascii}
use Rattle.gv_model.specs.Characters.{is_digit_of, prefix_of, tail}
use Rattle.gv_model.specs.Numerals.{number_after}
use Rattle.gv_model.specs.TextFault.Cause.{bad_token, bad_escape}
use Rattle.gv_model.specs.Strings.{StringStep, part, escape_in, escape, octal_escape, number_escape, letter_or_self, letter_meaning, at_most, is_scalar}
use Rattle.gv_model.specs.Strings.StringStep.{denotes, closes, faulty}
use Rattle.gv_model.specs.TextLaws.{StringPart, meant, written, AreParts}
use Rattle.gv_model.proofs.ListLaws.{no_bytes}
use Rattle.gv_model.proofs.LowBytes.{digit_is_low}
use Rattle.gv_model.proofs.StringParts.{choose}
use Rattle.dconf_model.proofs.AsciiParts.{after_ascii, drop_ascii}

-- ---- characters of several bytes

abbrev AreHigh : List ℕ → Type 0
AreHigh bs = AllByRecursion (λ b. 128 ≤ b) bs

-- a character is a byte of ASCII, or a byte and high ones after it
abbrev IsLong : ℕ → List ℕ → Type 0
IsLong c xs = (b : ℕ) × (bs : List ℕ) × (xs ≡ b ∷ bs) × AreHigh bs

short_or_long : (c : ℕ) → ((c < 128) × (encode_char c ≡ c ∷ [])) ⊎ IsLong c (encode_char c)
unfolding encode_char
short_or_long c =
    let two = (192 + c / 64) ∷ next c ∷ [] in
    let three = (224 + c / 4096) ∷ next (c / 64) ∷ next c ∷ [] in
    let four = (240 + c / 262144) ∷ next (c / 4096) ∷ next (c / 64) ∷ next c ∷ [] in
    let high : (n : ℕ) → 128 ≤ next n = λ n. omega arith in
    choose (λ xs. ((c < 128) × (xs ≡ c ∷ [])) ⊎ IsLong c xs) (nat_lt c 128) (c ∷ []) (cond (nat_lt c 2048) two (cond (nat_lt c 65536) three four))
    (λ e. inl (ltb-true c 128 e, refl))
    (λ e. inr (choose (IsLong c) (nat_lt c 2048) two (cond (nat_lt c 65536) three four)
    (λ f. (192 + c / 64, next c ∷ [], refl, (high c, tt)))
    (λ f. choose (IsLong c) (nat_lt c 65536) three four
    (λ g. (224 + c / 4096, next (c / 64) ∷ next c ∷ [], refl, (high (c / 64), (high c, tt))))
    (λ g. (240 + c / 262144, next (c / 4096) ∷ next (c / 64) ∷ next c ∷ [], refl, (high (c / 4096), (high (c / 64), (high c, tt))))))))

-- the rest of a character that begins with a high byte, and what follows it
record Rest (c : ℕ) (xs : List ℕ) : Type 0 where
  bs : List ℕ
  ys : List ℕ
  high : AreHigh bs
  splits : xs ≡ bs ++ ys
  whole : IsUtf8 (c ∷ bs)
  later : IsUtf8 ys

abbrev head_of : List ℕ → ℕ
head_of [] = 0
head_of (x ∷ xs) = x

high_char : (c : ℕ) (xs : List ℕ) → 128 ≤ c → IsUtf8 (c ∷ xs) → Rest c xs
high_char c xs h ([], (ok, e)) = let long = ap length e in absurd (omega (arith, long))
high_char c xs h (d ∷ ds, (ok, e)) = elim (short_or_long d) [
  | inl short ↦
      let same : d ≡ c = ap head_of (sym (ap (λ l. l ++ encodes ds) short.1) ∙ e) in
      absurd (omega (arith, short.0, same, h))
  | inr long ↦
      let all : long.0 ∷ (long.1 ++ encodes ds) ≡ c ∷ xs = sym (ap (λ l. l ++ encodes ds) long.2) ∙ e in
      let same : long.0 ≡ c = ap head_of all in
      let scalar_is = and_parts (scalar d) (scalars ds) ok in
      record {
        bs = long.1;
        ys = encodes ds;
        high = long.3;
        splits = sym (ap tail all);
        whole = (d ∷ [], (ap (λ b. b && true) scalar_is.0, append-nil (encode_char d) ∙ (long.2 ∙ ap (λ b. b ∷ long.1) same)));
        later = (ds, (scalar_is.1, refl));
      }
]

-- ---- the parts of a string

-- the bytes of a character are parts of their own
high_part : (quote c : ℕ) (cs : List ℕ) → quote < 128 → 128 ≤ c → part false quote c cs ≡ denotes (c ∷ []) 1
high_part quote c cs l h =
    rw (ne_eqb c quote (omega (arith, l, h)), ne_eqb c 0 (omega (arith, h)), ne_eqb c 92 (omega (arith, h))) refl

abbrev string_of : StringStep → List ℕ
string_of (denotes s n) = s
string_of other = []

abbrev size_of : StringStep → ℕ
size_of (denotes s n) = n
size_of other = 0

record HighParts (quote : ℕ) (ps : List StringPart) (after bs ys : List ℕ) : Type 0 where
  qs : List StringPart
  each : AreParts false quote qs (quote ∷ after)
  spells : written qs ++ quote ∷ after ≡ ys
  means : meant ps ≡ bs ++ meant qs
  fewer : length qs ≤ length ps

high_parts : (quote : ℕ) (bs : List ℕ) (ps : List StringPart) (after ys : List ℕ) → quote < 128 → AreHigh bs → AreParts false quote ps (quote ∷ after) →
    written ps ++ quote ∷ after ≡ bs ++ ys → HighParts quote ps after bs ys
unfolding written meant
high_parts quote [] ps after ys l h parts e = record { qs = ps; each = parts; spells = e; means = refl; fewer = omega arith }
high_parts quote (b ∷ bs) [] after ys l h parts e = let same : quote ≡ b = ap head_of e in absurd (omega (arith, same, h.0, l))
high_parts quote (b ∷ bs) (p ∷ ps) after ys l h parts e =
    let c : ℕ = parts.0.0 in
    let cs : List ℕ = parts.0.1 in
    let spelled : c ∷ (cs ++ (written ps ++ quote ∷ after)) ≡ b ∷ (bs ++ ys) =
    ap (λ l. l ++ (written ps ++ quote ∷ after)) (sym parts.0.2) ∙ (sym (append_assoc p.0 (written ps) (quote ∷ after)) ∙ e) in
    let same : c ≡ b = ap head_of spelled in
    let is : denotes (c ∷ []) 1 ≡ denotes p.1 (length p.0) =
    sym (high_part quote c (cs ++ (written ps ++ quote ∷ after)) l (omega (arith, same, h.0))) ∙ parts.0.3 in
    let one : 1 ≡ length p.0 = ap size_of is in
    let size = ap length parts.0.2 in
    let no_cs : cs ≡ [] = no_bytes cs (omega (arith, one, size)) in
    let rest = high_parts quote bs ps after ys l h.1 parts.1 (sym (ap (λ l. l ++ (written ps ++ quote ∷ after)) no_cs) ∙ ap tail spelled) in
    record {
      qs = rest.qs;
      each = rest.each;
      spells = rest.spells;
      means = (λ i. sym (ap string_of is) i ++ rest.means i) ∙ ap (λ c. c ∷ (bs ++ meant rest.qs)) same;
      fewer = omega (arith, rest.fewer);
    }

-- What a step stands for is a text, and so is what follows it; or it is the first byte of a
-- character that goes on.
abbrev GoesOn : List ℕ → List ℕ → ℕ → Type 0
GoesOn xs s n = (d : ℕ) × (s ≡ d ∷ []) × (128 ≤ d) × IsUtf8 (d ∷ drop n xs)

abbrev IsTextStep : List ℕ → StringStep → Type 0
IsTextStep xs (denotes s n) = (IsUtf8 s × IsUtf8 (drop n xs)) ⊎ GoesOn xs s n
IsTextStep xs other = Unit {0}

pub one_byte : (c : ℕ) → c < 128 → IsUtf8 (c ∷ [])
one_byte c l = IsUtf8-from_ascii (c ∷ []) (λ i. small i)
  where
    small : (i : ℕ) → get_or (c ∷ []) i 0 < 128
    small zero = l
    small (suc i) = omega arith

-- a byte by itself, before what is dropped
own_byte : (c n : ℕ) (xs : List ℕ) → IsUtf8 (c ∷ drop n xs) → IsTextStep xs (denotes (c ∷ []) n)
own_byte c n xs u = elim (cases_lt c 128) [
  | inl low ↦ inl (one_byte c low, after_ascii c (drop n xs) low u)
  | inr high ↦ inr (c, refl, high, u)
]

-- the last of so many digits
last_digit : (f : ℕ → Bool) (n : ℕ) (s : List ℕ) → length (prefix_of f (at_most (suc n) s)) ≡ suc n → (n < length s) × (f (get_or s n 0) ≡ true)
unfolding prefix_of at_most
last_digit f n [] e = absurd (omega (arith, e))
last_digit f zero (c ∷ s) e = go (f c) refl e
  where
    go : (b : Bool) → f c ≡ b → length (cond b (c ∷ prefix_of f (at_most 0 s)) []) ≡ 1 → (0 < suc (length s)) × (f c ≡ true)
    go true same e = (omega arith, same)
    go false same e = absurd (omega (arith, e))
last_digit f (suc n) (c ∷ s) e = go (last_digit f n s) (f c) e
  where
    go : (length (prefix_of f (at_most (suc n) s)) ≡ suc n → (n < length s) × (f (get_or s n 0) ≡ true)) → (b : Bool) →
        length (cond b (c ∷ prefix_of f (at_most (suc n) s)) []) ≡ suc (suc n) → (suc n < suc (length s)) × (f (get_or s n 0) ≡ true)
    go later true e = let last = later (omega (arith, e)) in (omega (arith, last.0), last.1)
    go later false e = absurd (omega (arith, e))

scalar_of : (n : ℕ) → is_scalar n ≡ true → scalar n ≡ true
scalar_of n e = grind arith

number_text : (n d : ℕ) (ds : List ℕ) → IsUtf8 (92 ∷ d ∷ ds) → d < 128 →
    IsTextStep (92 ∷ d ∷ ds) (number_escape (suc n) (prefix_of (is_digit_of 16) (at_most (suc n) ds)))
number_text n d ds u l =
    let digits = prefix_of (is_digit_of 16) (at_most (suc n) ds) in
    let v = number_after 16 0 digits in
    choose (IsTextStep (92 ∷ d ∷ ds)) (length digits == suc n && is_scalar v) (denotes (encode_utf8 v) (2 + suc n)) (faulty bad_escape 0 (2 + length digits))
    (λ e. (let both = and_parts (length digits == suc n) (is_scalar v) e in
    let last = last_digit (is_digit_of 16) n ds (eqb-true (length digits) (suc n) both.0) in
    let rest : IsUtf8 ds = after_ascii d ds l (after_ascii 92 (d ∷ ds) (omega arith) u) in
    let two : 2 + suc n ≡ suc (suc (suc n)) = omega arith in
    inl (IsUtf8-encode v (scalar_of v both.1), subst (λ n. IsUtf8 (drop n (92 ∷ d ∷ ds))) (sym two) (drop_ascii ds n last.0 (digit_is_low 16 (get_or ds n 0) (omega arith) last.1) rest))))
    (λ e. tt)

abbrev SmallLetter : ℕ → Option ℕ → Type 0
SmallLetter c (Some l) = (c < 128) × (l < 128)
SmallLetter c None = Unit {0}

either_letter : (c : ℕ) (b : Bool) (x y : Option ℕ) → (b ≡ true → SmallLetter c x) → SmallLetter c y → SmallLetter c (cond b x y)
either_letter c true x y h g = h refl
either_letter c false x y h g = g

small_letter : (c n l : ℕ) → n < 128 → l < 128 → (c == n) ≡ true → SmallLetter c (Some l)
small_letter c n l h k e = let same = eqb-true c n e in (omega (arith, same, h), k)

letters_small : (c : ℕ) → SmallLetter c (letter_meaning c)
letters_small c =
    either_letter c (c == 97) (Some 7) _ (small_letter c 97 7 (omega arith) (omega arith))
    (either_letter c (c == 98) (Some 8) _ (small_letter c 98 8 (omega arith) (omega arith))
    (either_letter c (c == 102) (Some 12) _ (small_letter c 102 12 (omega arith) (omega arith))
    (either_letter c (c == 110) (Some 10) _ (small_letter c 110 10 (omega arith) (omega arith))
    (either_letter c (c == 114) (Some 13) _ (small_letter c 114 13 (omega arith) (omega arith))
    (either_letter c (c == 116) (Some 9) _ (small_letter c 116 9 (omega arith) (omega arith))
    (either_letter c (c == 118) (Some 11) None (small_letter c 118 11 (omega arith) (omega arith)) tt))))))

letter_text : (o : Option ℕ) (c : ℕ) (cs : List ℕ) → SmallLetter c o → IsUtf8 (c ∷ cs) → IsTextStep (92 ∷ c ∷ cs) (letter_or_self o c)
letter_text (Some l) c cs h u = inl (one_byte l h.1, after_ascii c cs h.0 u)
letter_text None c cs h u =
    choose (IsTextStep (92 ∷ c ∷ cs)) (c == 10) (denotes [] 2) (cond (c == 0) (faulty bad_token 1 2) (denotes (c ∷ []) 2))
    (λ e. (let same = eqb-true c 10 e in inl (IsUtf8-nil, after_ascii c cs (omega (arith, same)) u)))
    (λ e. choose (IsTextStep (92 ∷ c ∷ cs)) (c == 0) (faulty bad_token 1 2) (denotes (c ∷ []) 2) (λ f. tt) (λ f. own_byte c 2 (92 ∷ c ∷ cs) u))

escape_text : (c : ℕ) (cs : List ℕ) → IsUtf8 (92 ∷ c ∷ cs) → IsTextStep (92 ∷ c ∷ cs) (escape c cs)
escape_text c cs u =
    let four = number_escape 4 (prefix_of (is_digit_of 16) (at_most 4 cs)) in
    let eight = number_escape 8 (prefix_of (is_digit_of 16) (at_most 8 cs)) in
    let self = letter_or_self (letter_meaning c) c in
    choose (IsTextStep (92 ∷ c ∷ cs)) (c == 117) four (cond (c == 85) eight self)
    (λ e. (let same = eqb-true c 117 e in number_text 3 c cs u (omega (arith, same))))
    (λ e. choose (IsTextStep (92 ∷ c ∷ cs)) (c == 85) eight self
    (λ f. (let same = eqb-true c 85 f in number_text 7 c cs u (omega (arith, same))))
    (λ f. letter_text (letter_meaning c) c cs (letters_small c) (after_ascii 92 (c ∷ cs) (omega arith) u)))

escape_in_text : (cs : List ℕ) → IsUtf8 (92 ∷ cs) → IsTextStep (92 ∷ cs) (escape_in false cs)
escape_in_text [] u = inl (IsUtf8-nil, IsUtf8-nil)
escape_in_text (c ∷ cs) u = escape_text c cs u

part_text : (quote c : ℕ) (cs : List ℕ) → IsUtf8 (c ∷ cs) → IsTextStep (c ∷ cs) (part false quote c cs)
part_text quote c cs u =
    let other = cond (c == 92) (escape_in false cs) (denotes (c ∷ []) 1) in
    choose (IsTextStep (c ∷ cs)) (c == quote) closes (cond (c == 0) (faulty bad_token 0 1) other) (λ e. tt)
    (λ e. choose (IsTextStep (c ∷ cs)) (c == 0) (faulty bad_token 0 1) other (λ f. tt)
    (λ f. choose (IsTextStep (c ∷ cs)) (c == 92) (escape_in false cs) (denotes (c ∷ []) 1)
    (λ g. (let same = eqb-true c 92 g in
    subst (λ c. IsTextStep (c ∷ cs) (escape_in false cs)) (sym same) (escape_in_text cs (subst (λ c. IsUtf8 (c ∷ cs)) same u))))
    (λ g. own_byte c 1 (c ∷ cs) u)))

-- ---- a string

parts_text : (n quote : ℕ) (ps : List StringPart) (after : List ℕ) → length ps ≤ n → quote < 128 → AreParts false quote ps (quote ∷ after) →
    IsUtf8 (written ps ++ quote ∷ after) → IsUtf8 (meant ps)
unfolding written meant
parts_text n quote [] after h l parts u = IsUtf8-nil
parts_text zero quote (p ∷ ps) after h l parts u = absurd (omega (arith, h))
parts_text (suc n) quote (p ∷ ps) after h l parts u =
    by_step (λ qs. λ fewer. λ each. λ text. parts_text n quote qs after (omega (arith, fewer, h)) l each text) step
  where
    c : ℕ
    c = parts.0.0

    more : List ℕ
    more = written ps ++ quote ∷ after

    whole : written (p ∷ ps) ++ quote ∷ after ≡ c ∷ (parts.0.1 ++ more)
    whole = append_assoc p.0 (written ps) (quote ∷ after) ∙ ap (λ l. l ++ more) parts.0.2

    past : drop (length p.0) (c ∷ (parts.0.1 ++ more)) ≡ more
    past = ap (λ l. drop (length p.0) (l ++ more)) (sym parts.0.2) ∙ drop_at p.0 more (length p.0) refl

    step : IsTextStep (c ∷ (parts.0.1 ++ more)) (denotes p.1 (length p.0))
    step = subst (IsTextStep (c ∷ (parts.0.1 ++ more))) parts.0.3 (part_text quote c (parts.0.1 ++ more) (subst IsUtf8 whole u))

    Later : Type 0
    Later = (qs : List StringPart) → length qs ≤ length ps → AreParts false quote qs (quote ∷ after) → IsUtf8 (written qs ++ quote ∷ after) → IsUtf8 (meant qs)

    by_step : Later → IsTextStep (c ∷ (parts.0.1 ++ more)) (denotes p.1 (length p.0)) → IsUtf8 (p.1 ++ meant ps)
    by_step all (inl both) = IsUtf8-append p.1 (meant ps) both.0 (all ps (omega arith) parts.1 (subst IsUtf8 past both.1))
    by_step all (inr on) =
        let rest = high_char on.0 more on.2 (subst (λ l. IsUtf8 (on.0 ∷ l)) past on.3) in
        let later = high_parts quote rest.bs ps after rest.ys l rest.high parts.1 rest.splits in
        let ends = all later.qs later.fewer later.each (subst IsUtf8 (sym later.spells) rest.later) in
        subst IsUtf8 (sym (λ i. on.1 i ++ later.means i)) (IsUtf8-append (on.0 ∷ rest.bs) (meant later.qs) rest.whole ends)

pub string_text : (quote : ℕ) (ps : List StringPart) (after : List ℕ) → quote < 128 → AreParts false quote ps (quote ∷ after) →
    IsUtf8 (written ps ++ quote ∷ after) → IsUtf8 (meant ps)
string_text quote ps after l parts u = parts_text (length ps) quote ps after (omega arith) l parts u

-- ---- a byte string

abbrev pub AreBytes : List ℕ → Type 0
AreBytes s = AllByRecursion (λ c. c < 256) s

bytes_append : (xs ys : List ℕ) → AreBytes xs → AreBytes ys → AreBytes (xs ++ ys)
bytes_append [] ys h g = g
bytes_append (x ∷ xs) ys h g = (h.0, bytes_append xs ys h.1 g)

pub bytes_later : (xs ys : List ℕ) → AreBytes (xs ++ ys) → AreBytes ys
bytes_later [] ys h = h
bytes_later (x ∷ xs) ys h = bytes_later xs ys h.1

encoded_bytes : (c : ℕ) → scalar c ≡ true → AreBytes (encode_char c)
unfolding encode_char
encoded_bytes c ok =
    let two = (192 + c / 64) ∷ next c ∷ [] in
    let three = (224 + c / 4096) ∷ next (c / 64) ∷ next c ∷ [] in
    let four = (240 + c / 262144) ∷ next (c / 4096) ∷ next (c / 64) ∷ next c ∷ [] in
    let low : (n : ℕ) → next n < 256 = λ n. omega arith in
    let top : c < 1114112 = grind arith in
    choose AreBytes (nat_lt c 128) (c ∷ []) (cond (nat_lt c 2048) two (cond (nat_lt c 65536) three four))
    (λ e. (let l = ltb-true c 128 e in (omega (arith, l), tt)))
    (λ e. choose AreBytes (nat_lt c 2048) two (cond (nat_lt c 65536) three four)
    (λ f. (let l = ltb-true c 2048 f in (omega (arith, l), (low c, tt))))
    (λ f. choose AreBytes (nat_lt c 65536) three four
    (λ g. (let l = ltb-true c 65536 g in (omega (arith, l), (low (c / 64), (low c, tt)))))
    (λ g. (omega (arith, top), (low (c / 4096), (low (c / 64), (low c, tt)))))))

encodes_bytes : (cs : List ℕ) → scalars cs ≡ true → AreBytes (encodes cs)
encodes_bytes [] ok = tt
encodes_bytes (c ∷ cs) ok =
    let both = and_parts (scalar c) (scalars cs) ok in bytes_append (encode_char c) (encodes cs) (encoded_bytes c both.0) (encodes_bytes cs both.1)

pub text_bytes : (s : List ℕ) → IsUtf8 s → AreBytes s
text_bytes s u = subst AreBytes u.1.1 (encodes_bytes u.0 u.1.0)

abbrev IsByteStep : StringStep → Type 0
IsByteStep (denotes s n) = AreBytes s
IsByteStep other = Unit {0}

byte_letter : (o : Option ℕ) (c : ℕ) → SmallLetter c o → c < 256 → IsByteStep (letter_or_self o c)
byte_letter (Some l) c h b = (omega (arith, h.1), tt)
byte_letter None c h b =
    choose IsByteStep (c == 10) (denotes [] 2) (cond (c == 0) (faulty bad_token 1 2) (denotes (c ∷ []) 2)) (λ e. tt)
    (λ e. choose IsByteStep (c == 0) (faulty bad_token 1 2) (denotes (c ∷ []) 2) (λ f. tt) (λ f. (b, tt)))

byte_octal : (digits : List ℕ) → IsByteStep (octal_escape digits)
byte_octal digits =
    choose IsByteStep (nat_lt (number_after 8 0 digits) 256) (denotes (number_after 8 0 digits ∷ []) (1 + length digits)) (faulty bad_escape 0 (1 + length digits))
    (λ e. (ltb-true (number_after 8 0 digits) 256 e, tt)) (λ e. tt)

byte_escape_in : (cs : List ℕ) → AreBytes cs → IsByteStep (escape_in true cs)
byte_escape_in [] b = tt
byte_escape_in (c ∷ cs) b =
    choose IsByteStep (is_digit_of 8 c) (octal_escape (prefix_of (is_digit_of 8) (at_most 3 (c ∷ cs)))) (letter_or_self (letter_meaning c) c)
    (λ e. byte_octal (prefix_of (is_digit_of 8) (at_most 3 (c ∷ cs)))) (λ e. byte_letter (letter_meaning c) c (letters_small c) b.0)

byte_part : (quote c : ℕ) (cs : List ℕ) → c < 256 → AreBytes cs → IsByteStep (part true quote c cs)
byte_part quote c cs l b =
    let other = cond (c == 92) (escape_in true cs) (denotes (c ∷ []) 1) in
    choose IsByteStep (c == quote) closes (cond (c == 0) (faulty bad_token 0 1) other) (λ e. tt)
    (λ e. choose IsByteStep (c == 0) (faulty bad_token 0 1) other (λ f. tt)
    (λ f. choose IsByteStep (c == 92) (escape_in true cs) (denotes (c ∷ []) 1) (λ g. byte_escape_in cs b) (λ g. (l, tt))))

pub string_bytes : (quote : ℕ) (ps : List StringPart) (rest : List ℕ) → AreParts true quote ps rest → AreBytes (written ps ++ rest) → AreBytes (meant ps)
unfolding written meant
string_bytes quote [] rest parts b = tt
string_bytes quote (p ∷ ps) rest parts b =
    let more : List ℕ = written ps ++ rest in
    let whole : AreBytes (parts.0.0 ∷ (parts.0.1 ++ more)) =
    subst AreBytes (append_assoc p.0 (written ps) rest ∙ ap (λ l. l ++ more) parts.0.2) b in
    let first = subst IsByteStep parts.0.3 (byte_part quote parts.0.0 (parts.0.1 ++ more) whole.0 whole.1) in
    bytes_append p.1 (meant ps) first (string_bytes quote ps rest parts.1 (bytes_later parts.0.1 more whole.1))

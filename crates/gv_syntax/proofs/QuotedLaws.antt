-- Quoted texts, part by part.
use Rattle.std.proofs.Common.{ℕ, zero, suc, ◌+◌, ◌-◌, ◌≤◌, ◌<◌, ◌≡◌, Bool, true, false, List, [], ◌∷◌, ◌++◌, Result, Ok, Err, length, drop, take, get_or, refl, sym, ap, ◌∙◌, subst, append_assoc, append-nil, arith}
use Rattle.std.specs.Prelude.{◌==◌, ◌&&◌, not}
use Rattle.std.proofs.lemmas.Bool.{ne_eqb, false≢true, true≢false}
use Rattle.std.proofs.lemmas.List.{get_or-drop, take_rest, drop-drop}
use Rattle.std.proofs.Math.ListN.{drop_of_length-le}
use Rattle.std.proofs.lemmas.Str.{IsCharBoundary-end, IsCharBoundary-before_ascii, IsCharBoundary-after_ascii}
use Rattle.std.specs.Str.{IsUtf8, IsCharBoundary}
use Rattle.gv_model.specs.TextFault.{Fault, fault}
use Rattle.gv_model.specs.TextFault.Cause.{unclosed}
use Rattle.gv_model.specs.Characters.{prefix_of, is_quote}
use Rattle.gv_model.specs.Strings.{StringStep, part, string_from, with_part, with_prefix, bytes_after}
use Rattle.gv_model.specs.Strings.StringStep.{denotes, closes, faulty}
use Rattle.gv_model.proofs.TokenSizes.{prefix_short}
use Rattle.gv_model.proofs.LowBytes.{quote_is_low}
use Rattle.gv_syntax.specs.ByteClasses.{is_of}
use Rattle.gv_syntax.specs.declared.lexing.bytes.ByteClass.TheVariants.{Plain}
use Rattle.gv_syntax.specs.LexSteps.{quoted_at, size_of, TakesFrom, EndsInAscii, BeginsWithPart}
use Rattle.gv_syntax.proofs.Lists.{length_of_drop, prefix_stops}

abbrev Quoted : Type 0
Quoted = Result (List ℕ × ℕ) Fault

pub with_no_prefix : (r : Quoted) → with_prefix [] r ≡ r
with_no_prefix (Ok x) = refl
with_no_prefix (Err e) = refl

with_both_prefixes : (xs ys : List ℕ) (r : Quoted) → with_prefix xs (with_prefix ys r) ≡ with_prefix (xs ++ ys) r
with_both_prefixes xs ys (Ok x) = let z = append_assoc xs ys x.0 in ap (λ l. Ok (l, x.1)) (sym z)
with_both_prefixes xs ys (Err e) = refl

-- bytes that belong to the part before
skips : (b : Bool) (q from at k : ℕ) (s : List ℕ) → string_from b q from at k s ≡ string_from b q from (at + k) 0 (drop k s)
unfolding string_from
skips b q from at zero s = let z : at ≡ at + 0 = omega arith in ap (λ n. string_from b q from n 0 s) z
skips b q from at (suc k) [] = refl
skips b q from at (suc k) (c ∷ cs) = skips b q from (suc at) k cs ∙ (let z : suc at + k ≡ at + suc k = omega arith in ap (λ n. string_from b q from n 0 (drop k cs)) z)

with_rest : (b : Bool) (q from at c : ℕ) (cs : List ℕ) (p : StringStep) → TakesFrom (c ∷ cs) p
    → with_part at p (string_from b q from (suc at) (bytes_after p) cs) ≡ with_part at p (string_from b q from (at + size_of p) 0 (drop (size_of p) (c ∷ cs)))
with_rest b q from at c cs (denotes s zero) lies = absurd (omega (arith, lies.0))
with_rest b q from at c cs (denotes s (suc m)) lies =
    let less : suc m - 1 ≡ m = omega arith in
    let place : suc at + m ≡ at + suc m = omega arith in
    ap (with_prefix s) (ap (λ k. string_from b q from (suc at) k cs) less ∙ (skips b q from (suc at) m cs ∙ ap (λ n. string_from b q from n 0 (drop m cs)) place))
with_rest b q from at c cs closes lies = refl
with_rest b q from at c cs (faulty x y z) lies = refl

-- a part occurs at the start
pub begins_with_part : (b : Bool) (q c : ℕ) (cs : List ℕ) (p : StringStep) → part b q c cs ≡ p → TakesFrom (c ∷ cs) p → BeginsWithPart b q (c ∷ cs) p
unfolding string_from
begins_with_part b q c cs p e lies from at =
    ap (λ (r : StringStep). with_part at r (string_from b q from (suc at) (bytes_after r) cs)) e ∙ with_rest b q from at c cs p lies

-- ---- what stands for itself

plain_bits : (x y z : Bool) → (not x && (not y && not z)) ≡ true → (x ≡ false) × (y ≡ false) × (z ≡ false)
plain_bits false false false e = (refl, refl, refl)
plain_bits true y z e = absurd (false≢true e)
plain_bits false true z e = absurd (false≢true e)
plain_bits false false true e = absurd (false≢true e)

plain_part : (b : Bool) (q c : ℕ) (cs : List ℕ) → is_of (Plain q) c ≡ true → part b q c cs ≡ denotes (c ∷ []) 1
plain_part b q c cs e =
    let h = plain_bits (c == q) (c == 0) (c == 92) e in
    rw (h.0, h.1, h.2) refl

begins_with_plain : (q c : ℕ) (cs : List ℕ) → is_of (Plain q) c ≡ true → BeginsWithPart false q (c ∷ cs) (denotes (c ∷ []) 1)
begins_with_plain q c cs e = begins_with_part false q c cs (denotes (c ∷ []) 1) (plain_part false q c cs e) (omega arith, omega arith)

abbrev prefix : ℕ → List ℕ → List ℕ
prefix q s = prefix_of (is_of (Plain q)) s

pub plain_run : (q from at : ℕ) (s : List ℕ) → string_from false q from at 0 s ≡ with_prefix (prefix q s) (string_from false q from (at + length (prefix q s)) 0 (drop (length (prefix q s)) s))
unfolding string_from prefix_of
plain_run q from at [] = refl
plain_run q from at (c ∷ cs) = step (is_of (Plain q) c) refl (plain_run q from (at + 1) cs)
  where
    step : (yes : Bool) → is_of (Plain q) c ≡ yes
        → string_from false q from (at + 1) 0 cs ≡ with_prefix (prefix q cs) (string_from false q from (at + 1 + length (prefix q cs)) 0 (drop (length (prefix q cs)) cs))
        → string_from false q from at 0 (c ∷ cs) ≡ with_prefix (prefix q (c ∷ cs)) (string_from false q from (at + length (prefix q (c ∷ cs))) 0 (drop (length (prefix q (c ∷ cs))) (c ∷ cs)))
    step true e rest =
        let place : at + 1 + length (prefix q cs) ≡ at + suc (length (prefix q cs)) = omega arith in
        let later = rest ∙ ap (λ n. with_prefix (prefix q cs) (string_from false q from n 0 (drop (length (prefix q cs)) cs))) place in
        rw e (begins_with_plain q c cs e from at ∙ (ap (with_prefix (c ∷ [])) later ∙ with_both_prefixes (c ∷ []) (prefix q cs) _))
    step false e rest =
        let place : at ≡ at + 0 = omega arith in
        rw e (ap (λ n. string_from false q from n 0 (c ∷ cs)) place ∙ sym (with_no_prefix _))

-- ---- the rest of a quoted text

-- what is read so far, with what the rest gives, is what the whole gives
abbrev pub SoFar : Bool → List ℕ → ℕ → ℕ → List ℕ → Type 0
SoFar b text from at done = with_prefix done (string_from b (get_or text from 0) from at 0 (drop at text)) ≡ quoted_at b text from

pub at_quote : (b : Bool) (text : List ℕ) (from : ℕ) → SoFar b text from (from + 1) []
at_quote b text from =
    let z : from + 1 ≡ suc from = omega arith in
    with_no_prefix _ ∙ ap (λ n. string_from b (get_or text from 0) from n 0 (drop n text)) z

pub after_plain : (text : List ℕ) (from at : ℕ) (done : List ℕ) → SoFar false text from at done
    → SoFar false text from (at + length (prefix (get_or text from 0) (drop at text))) (done ++ prefix (get_or text from 0) (drop at text))
after_plain text from at done h =
    let q = get_or text from 0 in
    let n = length (prefix q (drop at text)) in
    let run = plain_run q from at (drop at text) ∙ ap (λ s. with_prefix (prefix q (drop at text)) (string_from false q from (at + n) 0 s)) (drop-drop n at text) in
    sym (with_both_prefixes done (prefix q (drop at text)) _) ∙ (ap (with_prefix done) (sym run) ∙ h)

-- what a part says of the rest
pub at_part : (b : Bool) (text : List ℕ) (from at : ℕ) (done : List ℕ) (p : StringStep) → SoFar b text from at done → BeginsWithPart b (get_or text from 0) (drop at text) p
    → with_prefix done (with_part at p (string_from b (get_or text from 0) from (at + size_of p) 0 (drop (at + size_of p) text))) ≡ quoted_at b text from
at_part b text from at done p h s =
    let q = get_or text from 0 in
    ap (with_prefix done) (sym (s from at ∙ ap (λ l. with_part at p (string_from b q from (at + size_of p) 0 l)) (drop-drop (size_of p) at text))) ∙ h

pub after_part : (b : Bool) (text : List ℕ) (from at : ℕ) (done x : List ℕ) (n : ℕ) → SoFar b text from at done → BeginsWithPart b (get_or text from 0) (drop at text) (denotes x n) → SoFar b text from (at + n) (done ++ x)
after_part b text from at done x n h s = sym (with_both_prefixes done x _) ∙ at_part b text from at done (denotes x n) h s

pub at_close : (b : Bool) (text : List ℕ) (from at : ℕ) (done : List ℕ) → SoFar b text from at done → BeginsWithPart b (get_or text from 0) (drop at text) closes → quoted_at b text from ≡ Ok (done, at + 1)
at_close b text from at done h s =
    let z : suc at ≡ at + 1 = omega arith in
    sym (at_part b text from at done closes h s) ∙ ap (λ (r : List ℕ × ℕ). Ok r) (ap (λ l. (l, suc at)) (append-nil done) ∙ ap (λ n. (done, n)) z)

pub at_end : (b : Bool) (text : List ℕ) (from at : ℕ) (done : List ℕ) → SoFar b text from at done → length text ≤ at → quoted_at b text from ≡ fault unclosed from (from + 1)
unfolding string_from
at_end b text from at done h l =
    let z : suc from ≡ from + 1 = omega arith in
    sym h ∙ (ap (λ s. with_prefix done (string_from b (get_or text from 0) from at 0 s)) (drop_of_length-le text l) ∙ ap (λ n. fault unclosed from n) z)

-- ---- where a text may be cut

-- a byte that isn't plain is ASCII
special_is_low : (q c : ℕ) → q < 128 → is_of (Plain q) c ≡ false → c < 128
special_is_low q c l e = by_size (c - 127) refl
  where
    high_is_plain : 128 ≤ c → is_of (Plain q) c ≡ true
    high_is_plain h =
        let one = ne_eqb c q (λ x. omega arith) in
        let two = ne_eqb c 0 (λ x. omega arith) in
        let three = ne_eqb c 92 (λ x. omega arith) in
        rw (one, two, three) refl

    by_size : (n : ℕ) → c - 127 ≡ n → c < 128
    by_size zero z = omega arith
    by_size (suc n) z = absurd (true≢false (sym (high_is_plain (omega arith)) ∙ e))

pub special_there : (text : List ℕ) (q at : ℕ) → is_quote q ≡ true → at ≤ length text → at + length (prefix q (drop at text)) < length text → get_or text (at + length (prefix q (drop at text))) 0 < 128
special_there text q at quote l more =
    let n = length (prefix q (drop at text)) in
    let is = prefix_stops (is_of (Plain q)) (drop at text) (omega (arith, more, l, length_of_drop at text)) in
    special_is_low q _ (quote_is_low q quote) (ap (is_of (Plain q)) (sym (get_or-drop at text n 0)) ∙ is)

pub plain_end_fits : (text : List ℕ) (q at : ℕ) → at ≤ length text → at + length (prefix q (drop at text)) ≤ length text
plain_end_fits text q at l = omega (arith, l, length_of_drop at text, prefix_short (is_of (Plain q)) (drop at text))

pub plain_end_cuts : (text : List ℕ) (q at : ℕ) → is_quote q ≡ true → at ≤ length text → IsCharBoundary text (at + length (prefix q (drop at text)))
plain_end_cuts text q at quote l = either (at + length (prefix q (drop at text))) refl (length text - (at + length (prefix q (drop at text)))) refl
  where
    either : (n : ℕ) → at + length (prefix q (drop at text)) ≡ n → (left : ℕ) → length text - n ≡ left → IsCharBoundary text n
    either n e zero none = subst (IsCharBoundary text) (let z : length text ≡ n = omega (arith, e, none, plain_end_fits text q at l) in z) (IsCharBoundary-end text)
    either n e (suc k) some =
        let less : n < length text = omega arith in
        IsCharBoundary-before_ascii text n less (subst (λ m. get_or text m 0 < 128) e (special_there text q at quote l (omega (arith, e, less))))

pub part_end_cuts : (text : List ℕ) (at n : ℕ) (x : List ℕ) → IsUtf8 text → TakesFrom (drop at text) (denotes x n) → at ≤ length text → EndsInAscii (drop at text) (denotes x n) → IsCharBoundary text (at + n)
part_end_cuts text at n x u lies l low =
    let place : at + (n - 1) + 1 ≡ at + n = omega (arith, lies.0) in
    let there : get_or text (at + (n - 1)) 0 < 128 = subst (λ b. b < 128) (get_or-drop at text (n - 1) 0) low in
    subst (IsCharBoundary text) place (IsCharBoundary-after_ascii text (at + (n - 1)) u (omega (arith, lies.0, lies.1, l, length_of_drop at text)) there)

-- ---- steps of the loop

pub plain_more : (text : List ℕ) (from at end : ℕ) (done new : List ℕ) → SoFar false text from at done → end ≡ at + length (prefix (get_or text from 0) (drop at text))
    → new ≡ done ++ prefix (get_or text from 0) (drop at text) → SoFar false text from end new
plain_more text from at end done new h e n =
    subst (λ k. SoFar false text from k new) (sym e) (subst (λ l. SoFar false text from (at + length (prefix (get_or text from 0) (drop at text))) l) (sym n) (after_plain text from at done h))

-- after the plain bytes is an ASCII character, or the text ends
pub at_special : (text : List ℕ) (q at end : ℕ) → is_quote q ≡ true → at ≤ length text → end ≡ at + length (prefix q (drop at text)) → (end ≡ length text → ⊥)
    → (end < length text) × (get_or text end 0 < 128)
at_special text q at end quote l e unended =
    let less : end < length text = omega (arith, e, unended, plain_end_fits text q at l) in
    (less, subst (λ k. get_or text k 0 < 128) (sym e) (special_there text q at quote l (omega (arith, e, less))))

pub rest_is_special : (text : List ℕ) (end : ℕ) → (end < length text) × (get_or text end 0 < 128) → (0 < length (take (length text - end) (drop end text))) × (get_or (take (length text - end) (drop end text)) 0 0 < 128)
rest_is_special text end h =
    let place : end + 0 ≡ end = omega arith in
    rw (take_rest text end) (omega (arith, h.0, length_of_drop end text), subst (λ b. b < 128) (sym (get_or-drop end text 0 0 ∙ ap (λ k. get_or text k 0) place)) h.1)

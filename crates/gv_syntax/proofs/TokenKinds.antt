-- The token that begins at a place, by its kind.
use Rattle.std.proofs.Common.{ℕ, suc, ◌+◌, ◌≡◌, ◌<◌, true, false, List, [], ◌∷◌, length, drop, take, get_or, Result, refl, sym, ap, ap₂, ◌∙◌, subst, arith}
use Rattle.gv_model.specs.Characters.{prefix_of, is_letter, is_word_byte}
use Rattle.gv_model.specs.Numerals.{number_at, run_of}
use Rattle.gv_model.specs.Words.{word_at}
use Rattle.gv_model.specs.Strings.{string_from, quoted_token}
use Rattle.gv_model.specs.Tokens.Token.{string_token, byte_string}
use Rattle.gv_model.specs.Lexing.{Start, start, token_at, token_by}
use Rattle.gv_model.specs.Lexing.Start.{of_string, of_byte_string, of_word, of_type}
use Rattle.gv_syntax.specs.LexSteps.{IsLexed, placed_as, quoted_at}
use Rattle.gv_syntax.specs.declared.token.Token.{Token}
use Rattle.refused.specs.declared.Refused.{Refused}
use Rattle.gv_syntax.specs.declared.fault.TextFlaw.{TextFlaw}
use Rattle.gv_syntax.proofs.Lists.{prefix_byte, prefix_taken, rest_after}
use Rattle.gv_syntax.proofs.NumeralLaws.{run_slice}
use Rattle.gv_syntax.specs.declared.token.TokenKind.{TokenKind}
use Rattle.gv_syntax.specs.declared.fault.TextCause.{TextCause}

abbrev Answer : Type 0
Answer = Result Token (Refused TextFlaw)

-- the token is as its kind says
pub found_by : (k : Start) (at c : ℕ) (cs : List ℕ) (r : Answer) → k ≡ start c cs → IsLexed (token_by k at c cs) r → IsLexed (token_at at c cs) r
unfolding token_at
found_by k at c cs r e h = subst (λ (s : Start). IsLexed (token_by s at c cs) r) e h

pub text_found : (text : List ℕ) (at c : ℕ) (cs : List ℕ) (r : Answer) → drop at text ≡ c ∷ cs → IsLexed (quoted_token string_token at (quoted_at false text at)) r → IsLexed (token_by of_string at c cs) r
text_found text at c cs r e h =
    let same = ap₂ (λ q s. quoted_token string_token at (string_from false q at (suc at) 0 s)) (prefix_byte text at c cs e) (rest_after text at c cs e) in
    subst (λ x. IsLexed x r) same h

pub byte_string_found : (text : List ℕ) (at c : ℕ) (cs : List ℕ) (r : Answer) → drop at text ≡ c ∷ cs → 1 < length (drop at text)
    → IsLexed (quoted_token byte_string at (quoted_at true text (at + 1))) r → IsLexed (token_by of_byte_string at c cs) r
byte_string_found text at c [] r e l h = absurd (omega (arith, ap length e, l))
byte_string_found text at c (q ∷ cs) r e l h =
    let next : at + 1 ≡ suc at = omega arith in
    let later : drop (suc at) text ≡ q ∷ cs = rest_after text at c (q ∷ cs) e in
    let same = ap₂ (λ p s. quoted_token byte_string at (string_from true p (suc at) (suc (suc at)) 0 s)) (prefix_byte text (suc at) q cs later) (rest_after text (suc at) q cs later) in
    subst (λ x. IsLexed x r) (ap (λ n. quoted_token byte_string at (quoted_at true text n)) next ∙ same) h

word_prefix : (c : ℕ) (cs : List ℕ) → is_letter c ≡ true → prefix_of is_word_byte (c ∷ cs) ≡ c ∷ prefix_of is_word_byte cs
unfolding prefix_of
word_prefix c cs e = rw e refl

pub word_found : (s : List ℕ) (at c : ℕ) (cs : List ℕ) (r : Answer) → s ≡ c ∷ cs → is_letter (get_or s 0 0) ≡ true → IsLexed (word_at at (prefix_of is_word_byte s)) r → IsLexed (token_by of_word at c cs) r
word_found s at c cs r e letter h =
    subst (λ w. IsLexed (word_at at w) r) (ap (prefix_of is_word_byte) e ∙ word_prefix c cs (sym (ap (λ l. is_letter (get_or l 0 0)) e) ∙ letter)) h

pub type_found : (text : List ℕ) (at c : ℕ) (cs : List ℕ) (r : Answer) → drop at text ≡ c ∷ cs → IsLexed (token_by of_type at 64 (drop (suc at) text)) r → IsLexed (token_by of_type at c cs) r
type_found text at c cs r e h = subst (λ s. IsLexed (token_by of_type at c s) r) (rest_after text at c cs e) h

-- ---- a run of characters, and what it is

pub number_placed : (rest : List ℕ) (at n : ℕ) (found : Result TokenKind TextCause) (r : Answer) (c : ℕ) (cs : List ℕ) → rest ≡ c ∷ cs → n ≡ length (run_of c cs)
    → ((a : ℕ) → number_at a (take n rest) ≡ placed_as found a (a + length (take n rest))) → IsLexed (placed_as found at (at + n)) r → IsLexed (number_at at (run_of c cs)) r
number_placed rest at n found r c cs e size is h =
    let run = run_slice rest n c cs e size in
    let same = ap (λ k. placed_as found at (at + k)) (size ∙ sym (ap length run)) ∙ (sym (is at) ∙ ap (number_at at) run) in
    subst (λ x. IsLexed x r) same h

pub word_placed : (rest : List ℕ) (at n : ℕ) (found : Result TokenKind TextCause) (r : Answer) → n ≡ length (prefix_of is_word_byte rest)
    → ((a : ℕ) → word_at a (take n rest) ≡ placed_as found a (a + length (take n rest))) → IsLexed (placed_as found at (at + n)) r → IsLexed (word_at at (prefix_of is_word_byte rest)) r
word_placed rest at n found r size is h =
    let prefix = ap (λ k. take k rest) size ∙ prefix_taken is_word_byte rest in
    let same = ap (λ k. placed_as found at (at + k)) (size ∙ sym (ap length prefix)) ∙ (sym (is at) ∙ ap (word_at at) prefix) in
    subst (λ x. IsLexed x r) same h

-- The first fault of placed tokens is that of the grammar, read at its token's number.
use Rattle.std.proofs.Common.{arith, ◌≡◌, ◌≤◌, ◌+◌, ℕ, suc, List, [], ◌∷◌, length, map, Option, Some, None, refl, sym, ap, subst, ◌∙◌}
use Rattle.std.specs.Prelude.{slice_get, option_map}
use Rattle.std.proofs.lemmas.Option.{slice_get-map}
use Rattle.gv_model.specs.TextFault.{Cause}
use Rattle.gv_model.specs.TextFault.Cause.{bad_token, unclosed, bad_escape, double_text, unexpected, too_deep}
use Rattle.gv_model.specs.GrammarFaults.{NumberedFault, numbered, grammar_fault, first_fault as first_fault_at}
use Rattle.gv_model.specs.GrammarFaults.Want.{a_value}
use Rattle.gv_model.specs.Lexing.{Lexes}
use Rattle.gv_model.specs.Grammar.{tokens_bytes}
use Rattle.gv_model.proofs.PlainTextLaws.{tree_is_plain}
use Rattle.gv_model.proofs.TokenSizes.{tokens_fit}
use Rattle.gv_model.proofs.FaultPlaces.{move_fault, move_tokens, same_fault}
use Rattle.gv_model.specs.Parsing.{kinds, IsTree, HasFault, fault_at as fault_at_token}
use Rattle.gv_syntax.specs.declared.token.Span.{Span}
use Rattle.gv_syntax.specs.declared.token.Token.{Token}
use Rattle.gv_syntax.specs.declared.fault.TextCause.{TextCause}
use Rattle.gv_syntax.specs.declared.fault.TextCause.TheVariants.{Unexpected}
use Rattle.refused.specs.declared.Refused.{Refused}
use Rattle.refused.specs.declared.Refused.TheVariants.{Fault}
use Rattle.refused.proofs.Faults.{OfFault-weaker}
use Rattle.gv_syntax.specs.declared.fault.TextFlaw.{TextFlaw}
use Rattle.gv_model.specs.Syntax.{Syntax as Value}
use Rattle.gv_syntax.specs.ModelTokens.{token_of, placed_of, cause_of, fault_at_span, AreTokens, IsTokenFault}
use Rattle.gv_syntax.specs.Parsed.{IsGrammarFault, IsTextFault, IsTreeOf, IsWithin}
use Rattle.gv_syntax.specs.ParseSteps.{IsValue}
use Rattle.gv_syntax.specs.Expectations.{cause_as, refused, fault_as, at_spans, first_fault, kinds_of}

-- Where a numbered token is; the number past the last is the end of the text

abbrev pub span_of : Span → Option Token → Span
span_of end None = end
span_of end (Some t) = t.span

abbrev pub span_at : Span → List Token → ℕ → Span
span_at end ts n = span_of end (slice_get ts n)

-- the tokens from a number on
abbrev pub AreFrom : List Token → ℕ → List Token → Type 0
AreFrom all n ts = (i : ℕ) → slice_get all (n + i) ≡ slice_get ts i

spans_of : (end : Span) (all ts : List Token) (n : ℕ) → AreFrom all n ts → move_tokens (span_at end all) (numbered n (kinds_of ts)) ≡ at_spans ts
spans_of end all [] n h = refl
spans_of end all (t ∷ ts) n h =
    ap (λ s. (s, token_of t.kind) ∷ move_tokens (span_at end all) (numbered (suc n) (kinds_of ts))) here
    ∙ ap (λ us. (t.span, token_of t.kind) ∷ us) (spans_of end all ts (suc n) (λ i. ap (slice_get all) (omega arith) ∙ h (suc i)))
  where
    here : span_at end all n ≡ t.span
    here = ap (span_of end) (ap (slice_get all) (omega arith) ∙ h 0)

span_past : (end : Span) (ts : List Token) → span_at end ts (length (kinds_of ts)) ≡ end
span_past end [] = refl
span_past end (t ∷ ts) = span_past end ts

-- the first fault of tokens at their spans is that of their numbers, at the spans of these
pub fault_by_numbers : (end : Span) (ts : List Token) → first_fault end (a_value 1 ∷ []) ts ≡ option_map fault_as (option_map (move_fault (span_at end ts)) (grammar_fault (kinds_of ts)))
unfolding first_fault
fault_by_numbers end ts =
    ap (λ us. option_map fault_as (first_fault_at end (a_value 1 ∷ []) us)) (sym (spans_of end ts ts 0 (λ i. ap (slice_get ts) (omega arith))))
    ∙ (ap (λ s. option_map fault_as (first_fault_at s (a_value 1 ∷ []) (move_tokens (span_at end ts) (numbered 0 (kinds_of ts))))) (sym (span_past end ts))
    ∙ ap (option_map fault_as) (same_fault (span_at end ts) (length (kinds_of ts)) (numbered 0 (kinds_of ts)) (a_value 1 ∷ [])))

-- The whole text

pub kinds_placed : (ts : List Token) → kinds (map placed_of ts) ≡ kinds_of ts
kinds_placed [] = refl
kinds_placed (t ∷ ts) = ap (λ us. token_of t.kind ∷ us) (kinds_placed ts)

cause_back : (c : Cause) → cause_of (cause_as c) ≡ c
cause_back bad_token = refl
cause_back unclosed = refl
cause_back bad_escape = refl
cause_back double_text = refl
cause_back unexpected = refl
cause_back too_deep = refl

abbrev pub end_of : ℕ → Span
end_of size = record { start = size; end = size }

fault_in_text : (size : ℕ) (c : Cause) (o : Option Token) → fault_at_span (cause_as c) (span_of (end_of size) o) ≡ fault_at_token size c (option_map placed_of o)
fault_in_text size c None = ap (λ k. fault_at_token size k None) (cause_back c)
fault_in_text size c (Some t) = ap (λ k. fault_at_token size k (Some (placed_of t))) (cause_back c)

-- the first fault of a text's tokens is the text's
pub fault_of_text : (text : List ℕ) (ts : List Token) (e : TextFlaw) → Lexes 0 text (map placed_of ts) None → first_fault (end_of (length text)) (a_value 1 ∷ []) ts ≡ Some (Fault e) → HasFault text (fault_at_span e.cause e.span)
fault_of_text text ts e l h = record { placed = map placed_of ts; stopped = None; lexes = l; fault = go (grammar_fault (kinds_of ts)) refl (sym (fault_by_numbers (end_of (length text)) ts) ∙ h) }
  where
    spans : ℕ → Span
    spans n = span_at (end_of (length text)) ts n

    go : (o : Option NumberedFault) → grammar_fault (kinds_of ts) ≡ o → option_map fault_as (option_map (move_fault spans) o) ≡ Some (Fault e) → (f : NumberedFault)
        × (grammar_fault (kinds (map placed_of ts)) ≡ Some f) × (fault_at_span e.cause e.span ≡ fault_at_token (length text) f.0 (slice_get (map placed_of ts) f.1))
    go None is g = absurd cc
    go (Some f) is g = (f, ap grammar_fault (kinds_placed ts) ∙ is, same_fault f g ∙ (fault_in_text (length text) f.0 (slice_get ts f.1) ∙ ap (fault_at_token (length text) f.0) (sym (slice_get-map placed_of ts f.1))))
      where
        same_fault : (f : NumberedFault) → Some (fault_as (move_fault spans f)) ≡ Some (Fault e) → fault_at_span e.cause e.span ≡ fault_at_span (cause_as f.0) (spans f.1)
        same_fault f g = let same : e ≡ record { cause = cause_as f.0; span = spans f.1 } = cc in ap (λ (x : TextFlaw). fault_at_span x.cause x.span) same

-- a token after the value
pub too_many : (size : ℕ) (all old mid : List Token) (t : Token) (new : List Token) (f : Refused TextFlaw) → old ≡ all → f ≡ refused Unexpected t.span → (x : Value) → IsValue 1 old mid x → mid ≡ t ∷ new → IsGrammarFault size all f
unfolding first_fault first_fault_at
too_many size all old mid t new f o h x v m = subst (λ ts. IsGrammarFault size ts f) o (subst (IsGrammarFault size old) (sym h) (v.passes (end_of size) [] ∙ ap (first_fault (end_of size) []) m))

-- a fault of a text's tokens, and one of its grammar
pub token_fault : (text : List ℕ) (f : Refused TextFlaw) → IsTokenFault text f → IsTextFault text f
token_fault text f h = OfFault-weaker _ _ (λ e l. record { placed = l.0; stopped = Some (fault_at_span e.cause e.span); lexes = l.1; fault = refl }) f h

pub grammar_fault_of : (text : List ℕ) (ts : List Token) (f : Refused TextFlaw) → AreTokens text ts → IsGrammarFault (length text) ts f → IsTextFault text f
grammar_fault_of text ts f l h = OfFault-weaker _ _ (λ e g. fault_of_text text ts e l g) f h

-- the tree of a text's tokens is the text's
pub tree_of_text : (text : List ℕ) (ts : List Token) (x : Value) → AreTokens text ts → IsTreeOf ts x → IsTree text x
tree_of_text text ts x l h = record { placed = map placed_of ts; lexes = l; spells = h.spells ∙ sym (kinds_placed ts); shallow = h.shallow }

pub tree_within : (text : List ℕ) (ts : List Token) (x : Value) → AreTokens text ts → length text ≤ 16777216 → IsTreeOf ts x → IsWithin x
tree_within text ts x l b h = record {
  levels = h.shallow;
  bytes = omega (arith, ap tokens_bytes (h.spells ∙ sym (kinds_placed ts)), tokens_fit 0 text (map placed_of ts) None l, b);
  plain = tree_is_plain text x (tree_of_text text ts x l h);
}

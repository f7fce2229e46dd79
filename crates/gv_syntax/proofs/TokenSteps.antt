-- Steps of a loop over the tokens of a text.
use Rattle.std.proofs.Common.{ℕ, ◌+◌, ◌≤◌, ◌<◌, ◌≡◌, List, [], ◌∷◌, ◌++◌, Some, None, Result, Ok, Err, length, drop, refl, sym, ◌∙◌, subst, arith, drop-cons}
use Rattle.std.proofs.Math.ListN.{drop_of_length-le}
use Rattle.std.proofs.lemmas.List.{drop-drop}
use Rattle.gv_model.specs.TextFault.{Fault}
use Rattle.gv_model.specs.Tokens.{Placed}
use Rattle.gv_model.specs.Characters.{is_blank}
use Rattle.gv_model.specs.Lexing.{token_at, Lexes, Begins, EndsWith, blanks}
use Rattle.gv_model.proofs.TokenLaws.{begins_ahead}
use Rattle.gv_model.proofs.TokenLoops.{TokensSoFar, one_more, at_last}
use Rattle.gv_model.proofs.TokenSizes.{prefix_short}
use Rattle.gv_syntax.specs.ModelTokens.{IsTokenFault, fault_at_span}
use Rattle.gv_syntax.specs.LexSteps.{IsFaultOf}
use Rattle.refused.specs.declared.Refused.{Refused}
use Rattle.refused.specs.declared.Refused.TheVariants as refused
use Rattle.gv_syntax.specs.declared.fault.TextFlaw.{TextFlaw}
use Rattle.gv_syntax.proofs.Lists.{length_of_drop}

-- what the token at a place is, whatever the bytes there are called
abbrev pub TokenIs : List ℕ → ℕ → Result Placed Fault → Type 0
TokenIs text at r = (c : ℕ) (cs : List ℕ) → drop at text ≡ c ∷ cs → token_at at c cs ≡ r

begins_there : (text : List ℕ) (at : ℕ) (t : Placed) → at < length text → TokenIs text at (Ok t) → Begins at (drop at text) t
begins_there text at t l is =
    let split = drop-cons text at 0 l in
    subst (λ s. Begins at s t) (sym split) (is _ _ split)

ends_there : (text : List ℕ) (at : ℕ) (e : Fault) → at < length text → TokenIs text at (Err e) → EndsWith at (drop at text) (Some e)
ends_there text at e l is =
    let split = drop-cons text at 0 l in
    subst (λ s. EndsWith at s (Some e)) (sym split) (e, is _ _ split, refl)

pub goes_ahead : (text : List ℕ) (at : ℕ) (t : Placed) → at < length text → TokenIs text at (Ok t) → at < t.stop
goes_ahead text at t l is = begins_ahead at (drop at text) t (begins_there text at t l is)

pub token_more : (text : List ℕ) (at n : ℕ) (prefix : List Placed) (t : Placed) → n ≡ blanks (drop at text) → at + n < length text → TokensSoFar text at prefix
    → TokenIs text (at + n) (Ok t) → TokensSoFar text t.stop (prefix ++ t ∷ [])
token_more text at n prefix t e l so_far is =
    let begins = begins_there text (at + n) t l is in
    let there = subst (λ s. Begins (at + n) s t) (sym (drop-drop n at text)) begins in
    one_more text at prefix t so_far (subst (λ m. Begins (at + m) (drop m (drop at text)) t) e there)

pub fault_last : (text : List ℕ) (at n : ℕ) (prefix : List Placed) (x : Fault) → n ≡ blanks (drop at text) → at + n < length text → TokensSoFar text at prefix
    → TokenIs text (at + n) (Err x) → Lexes 0 text prefix (Some x)
fault_last text at n prefix x e l so_far is =
    let ends = ends_there text (at + n) x l is in
    let there = subst (λ s. EndsWith (at + n) s (Some x)) (sym (drop-drop n at text)) ends in
    at_last text at prefix (Some x) so_far (subst (λ m. EndsWith (at + m) (drop m (drop at text)) (Some x)) e there)

pub text_last : (text : List ℕ) (at n : ℕ) (prefix : List Placed) → n ≡ blanks (drop at text) → at + n ≡ length text → TokensSoFar text at prefix → Lexes 0 text prefix None
text_last text at n prefix e l so_far =
    let none : drop (at + n) text ≡ [] = drop_of_length-le text (omega (arith, l)) in
    let there : EndsWith (at + n) (drop n (drop at text)) None = subst (λ s. EndsWith (at + n) s None) (sym (drop-drop n at text ∙ none)) refl in
    at_last text at prefix None so_far (subst (λ m. EndsWith (at + m) (drop m (drop at text)) None) e there)

-- a fault of a token is the text's
pub fault_found : (text : List ℕ) (at n : ℕ) (prefix : List Placed) (e : Refused TextFlaw) → n ≡ blanks (drop at text) → at + n < length text → TokensSoFar text at prefix
    → ((c : ℕ) (cs : List ℕ) → drop (at + n) text ≡ c ∷ cs → IsFaultOf (token_at (at + n) c cs) e) → IsTokenFault text e
fault_found text at n prefix (refused.Fault x) e l so_far is = (prefix, fault_last text at n prefix (fault_at_span x.cause x.span) e l so_far is)
fault_found text at n prefix refused.Memory e l so_far is = tt

pub blanks_fit : (text : List ℕ) (at n : ℕ) → n ≡ blanks (drop at text) → at ≤ length text → at + n ≤ length text
blanks_fit text at n e l = omega (arith, e, l, length_of_drop at text, prefix_short is_blank (drop at text))

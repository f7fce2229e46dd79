-- Values with `,` between: what has been read of them, and one more.
use Rattle.std.proofs.Common.{arith, ◌≡◌, ◌≤◌, ◌+◌, ℕ, suc, max, List, [], ◌∷◌, ◌++◌, length, refl, sym, ap, ◌∙◌, append_assoc, length-append}
use Rattle.gv_model.specs.Syntax.{Syntax as Value, levels, greatest_levels, pairs_levels}
use Rattle.gv_model.specs.Tokens.{Token as TheToken}
use Rattle.gv_model.specs.Tokens.Mark.{comma, colon}
use Rattle.gv_model.specs.Tokens.Token.{mark}
use Rattle.gv_model.specs.Grammar.{tokens_of, commas, members_tokens, pairs_tokens}
use Rattle.gv_model.specs.GrammarFaults.Want.{a_value, inside}
use Rattle.gv_model.specs.GrammarFaults.Stage.{pair_more}
use Rattle.gv_syntax.specs.declared.token.Mark.{Mark}
use Rattle.gv_syntax.specs.declared.token.Span.{Span}
use Rattle.gv_syntax.specs.declared.token.Token.{Token}
use Rattle.gv_syntax.specs.SyntaxNodes.{nodes_of, pairs_of}
use Rattle.gv_syntax.specs.Expectations.{Want, first_fault, kinds_of, more_stage}

-- values read from start on, after others, and the tokens that are left
pub record MoreSoFar (close : Mark) (d : ℕ) (opened : Span) (start rest : List Token) (before all : List Value) : Type 0 where
  pub first : Value
  pub others : List Value
  pub joined : all ≡ before ++ (first ∷ others)
  pub tokens : kinds_of start ≡ commas (nodes_of (first ∷ others)) ++ kinds_of rest
  pub passes : (e : Span) (more : List Want) → first_fault e (a_value d ∷ inside (more_stage close) d opened ∷ more) start ≡ first_fault e (inside (more_stage close) d opened ∷ more) rest
  pub levels : greatest_levels (nodes_of (first ∷ others)) + d ≤ 129

pub record PairsSoFar (key : Value) (d : ℕ) (opened : Span) (start rest : List Token) (ps : List (Value × Value)) : Type 0 where
  pub first : Value × Value
  pub others : List (Value × Value)
  pub joined : ps ≡ first ∷ others
  pub tokens : tokens_of key ++ mark colon ∷ kinds_of start ≡ pairs_tokens (pairs_of (first ∷ others)) ++ kinds_of rest
  pub passes : (e : Span) (more : List Want) → first_fault e (a_value d ∷ inside pair_more d opened ∷ more) start ≡ first_fault e (inside pair_more d opened ∷ more) rest
  pub levels : levels key + d ≤ 129 → pairs_levels (pairs_of (first ∷ others)) + d ≤ 129

-- one value more
pub commas_more : (x : Value) (xs : List Value) (y : Value) (ts : List TheToken) → commas (nodes_of (x ∷ (xs ++ y ∷ []))) ++ ts ≡ commas (nodes_of (x ∷ xs)) ++ mark comma ∷ (tokens_of y ++ ts)
unfolding tokens_of
commas_more x [] y ts = append_assoc (tokens_of x) (mark comma ∷ tokens_of y) ts
commas_more x (z ∷ zs) y ts =
    append_assoc (tokens_of x) (mark comma ∷ commas (nodes_of (z ∷ (zs ++ y ∷ [])))) ts
    ∙ (ap (λ us. tokens_of x ++ mark comma ∷ us) (commas_more z zs y ts)
    ∙ sym (append_assoc (tokens_of x) (mark comma ∷ commas (nodes_of (z ∷ zs))) (mark comma ∷ (tokens_of y ++ ts))))

pub pairs_more : (p : Value × Value) (ps : List (Value × Value)) (k v : Value) (ts : List TheToken) → pairs_tokens (pairs_of (p ∷ (ps ++ (k, v) ∷ []))) ++ ts ≡ pairs_tokens (pairs_of (p ∷ ps)) ++ mark comma ∷ (tokens_of k ++ mark colon ∷ (tokens_of v ++ ts))
unfolding tokens_of
pairs_more p [] k v ts =
    append_assoc (tokens_of p.0) (mark colon ∷ (tokens_of p.1 ++ mark comma ∷ (tokens_of k ++ mark colon ∷ tokens_of v))) ts
    ∙ (ap (λ us. tokens_of p.0 ++ mark colon ∷ us) (append_assoc (tokens_of p.1) (mark comma ∷ (tokens_of k ++ mark colon ∷ tokens_of v)) ts
    ∙ ap (λ us. tokens_of p.1 ++ mark comma ∷ us) (append_assoc (tokens_of k) (mark colon ∷ tokens_of v) ts))
    ∙ sym (append_assoc (tokens_of p.0) (mark colon ∷ tokens_of p.1) (mark comma ∷ (tokens_of k ++ mark colon ∷ (tokens_of v ++ ts)))))
pairs_more p (q ∷ qs) k v ts =
    append_assoc (tokens_of p.0) (mark colon ∷ (tokens_of p.1 ++ mark comma ∷ pairs_tokens (pairs_of (q ∷ (qs ++ (k, v) ∷ []))))) ts
    ∙ (ap (λ us. tokens_of p.0 ++ mark colon ∷ us) (append_assoc (tokens_of p.1) (mark comma ∷ pairs_tokens (pairs_of (q ∷ (qs ++ (k, v) ∷ [])))) ts
    ∙ (ap (λ us. tokens_of p.1 ++ mark comma ∷ us) (pairs_more q qs k v ts)
    ∙ sym (append_assoc (tokens_of p.1) (mark comma ∷ pairs_tokens (pairs_of (q ∷ qs))) (mark comma ∷ (tokens_of k ++ mark colon ∷ (tokens_of v ++ ts))))))
    ∙ sym (append_assoc (tokens_of p.0) (mark colon ∷ (tokens_of p.1 ++ mark comma ∷ pairs_tokens (pairs_of (q ∷ qs)))) (mark comma ∷ (tokens_of k ++ mark colon ∷ (tokens_of v ++ ts)))))

pub levels_more : (xs : List Value) (y : Value) → greatest_levels (nodes_of (xs ++ y ∷ [])) ≡ max (greatest_levels (nodes_of xs)) (levels y)
unfolding levels
levels_more [] y = omega arith
levels_more (x ∷ xs) y = omega (arith, levels_more xs y)

pub pairs_levels_more : (ps : List (Value × Value)) (k v : Value) → pairs_levels (pairs_of (ps ++ (k, v) ∷ [])) ≡ max (pairs_levels (pairs_of ps)) (max (levels k) (levels v))
unfolding levels
pairs_levels_more [] k v = omega arith
pairs_levels_more (p ∷ ps) k v = omega (arith, pairs_levels_more ps k v)

-- a single member has its `,`
pub members_of : (x : Value) (xs : List Value) → members_tokens (nodes_of (x ∷ xs)) ≡ tokens_of x ++ mark comma ∷ commas (nodes_of xs)
unfolding tokens_of
members_of x [] = refl
members_of x (y ∷ ys) = refl

pub length_kinds : (ts : List Token) → length (kinds_of ts) ≡ length ts
length_kinds [] = refl
length_kinds (t ∷ ts) = ap suc (length_kinds ts)

-- no more tokens are left than there were
pub no_longer : (prefix : List TheToken) (old new : List Token) → kinds_of old ≡ prefix ++ kinds_of new → length new ≤ length old
no_longer prefix old new e = omega (arith, ap length e, length-append prefix (kinds_of new), length_kinds old, length_kinds new)

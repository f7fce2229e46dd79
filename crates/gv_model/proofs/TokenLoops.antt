-- The invariant of a loop over tokens: the tokens so far and those of the rest are those of the text.
use Rattle.std.proofs.Common.{◌≡◌, ◌<◌, ℕ, ◌+◌, ◌-◌, List, [], ◌∷◌, ◌++◌, drop, Option, sym, ap, ◌∙◌, subst, arith, append_assoc, append-nil}
use Rattle.std.proofs.lemmas.List.{drop-drop}
use Rattle.gv_model.specs.Tokens.{Placed}
use Rattle.gv_model.specs.TextFault.{Fault}
use Rattle.gv_model.specs.Lexing.{Lexes, Begins, EndsWith, blanks}
use Rattle.gv_model.proofs.TokenLaws.{begins_ahead}

abbrev pub TokensSoFar : List ℕ → ℕ → List Placed → Type 0
TokensSoFar text at prefix = (ts : List Placed) (f : Option Fault) → Lexes at (drop at text) ts f → Lexes 0 text (prefix ++ ts) f

pub at_start : (text : List ℕ) → TokensSoFar text 0 []
at_start text ts f h = h

-- one token more
pub one_more : (text : List ℕ) (at : ℕ) (prefix : List Placed) (t : Placed) → TokensSoFar text at prefix
    → Begins (at + blanks (drop at text)) (drop (blanks (drop at text)) (drop at text)) t → TokensSoFar text t.stop (prefix ++ t ∷ [])
one_more text at prefix t so_far begins ts f h =
    let ahead : at + blanks (drop at text) < t.stop = begins_ahead _ _ t begins in
    let rest : drop (t.stop - at) (drop at text) ≡ drop t.stop text = drop-drop (t.stop - at) at text ∙ (let z : at + (t.stop - at) ≡ t.stop = omega arith in ap (λ k. drop k text) z) in
    subst (λ (us : List Placed). Lexes 0 text us f) (sym (append_assoc prefix (t ∷ []) ts))
    (so_far (t ∷ ts) f (begins, subst (λ (s : List ℕ). Lexes t.stop s ts f) (sym rest) h))

-- at the end of the text, or at a fault
pub at_last : (text : List ℕ) (at : ℕ) (prefix : List Placed) (f : Option Fault) → TokensSoFar text at prefix → EndsWith (at + blanks (drop at text)) (drop (blanks (drop at text)) (drop at text)) f → Lexes 0 text prefix f
at_last text at prefix f so_far h = subst (λ (us : List Placed). Lexes 0 text us f) (append-nil prefix) (so_far [] f h)

-- Each text has one outcome.
use Rattle.std.proofs.Common.{◌≡◌, ℕ, List, [], ◌++◌, length, Option, Some, None, Result, Ok, Err, refl, sym, ap, ◌∙◌, subst}
use Rattle.std.specs.Prelude.{slice_get}
use Rattle.std.proofs.lemmas.Option.{none-some, same_Some}
use Rattle.gv_model.specs.Syntax.{Syntax}
use Rattle.gv_model.specs.Tokens.{Placed}
use Rattle.gv_model.specs.TextFault.{Fault}
use Rattle.gv_model.specs.Lexing.{Lexes}
use Rattle.gv_model.specs.Lexed.{lexed}
use Rattle.gv_model.specs.GrammarFaults.{grammar_fault, NumberedFault}
use Rattle.gv_model.specs.Parsing.{kinds, fault_at, IsTree, HasFault, IsParseFault, Parses}
use Rattle.gv_model.proofs.TokenLaws.{one_lexing, lexed_right}
use Rattle.gv_model.proofs.GrammarLaws.{one_tree_for, no_fault}
use Rattle.gv_model.proofs.FaultlessTokens.{whole}

parse_from : (text : List ℕ) (ts : List Placed) (f : Option Fault) → Lexes 0 text ts f → (r : Result Syntax Fault) × Parses text r
parse_from text ts (Some e) h = (Err e, record { placed = ts; stopped = Some e; lexes = h; fault = refl })
parse_from text ts None h = go (grammar_fault (kinds ts)) refl
  where
    go : (g : Option NumberedFault) → grammar_fault (kinds ts) ≡ g → (r : Result Syntax Fault) × Parses text r
    go (Some f) e = (Err (fault_at (length text) f.0 (slice_get ts f.1)), record { placed = ts; stopped = None; lexes = h; fault = (f, e, refl) })
    go None e = let w = whole (kinds ts) e in (Ok w.0, record { placed = ts; lexes = h; spells = w.1; shallow = w.2 })

pub each_parses : (text : List ℕ) → (r : Result Syntax Fault) × Parses text r
each_parses text = parse_from text (lexed 0 0 text).0 (lexed 0 0 text).1 (lexed_right 0 0 text)

two_faults : (text : List ℕ) (ts : List Placed) (o : Option Fault) (e d : Fault) → IsParseFault text ts o e → IsParseFault text ts o d → e ≡ d
two_faults text ts (Some f) e d h g = h ∙ sym g
two_faults text ts None e d h g =
    h.2 ∙ (ap (λ (f : NumberedFault). fault_at (length text) f.0 (slice_get ts f.1)) (same_Some h.0 g.0 (sym h.1 ∙ g.1)) ∙ sym g.2)

pub tree_no_fault : (text : List ℕ) (x : Syntax) (e : Fault) → IsTree text x → HasFault text e → ⊥
tree_no_fault text x e h g = go g.stopped one.1 (subst (λ (ts : List Placed). IsParseFault text ts g.stopped e) (sym one.0) g.fault)
  where
    one : (h.placed ≡ g.placed) × (None ≡ g.stopped)
    one = one_lexing 0 text h.placed g.placed None g.stopped h.lexes g.lexes

    go : (o : Option Fault) → None ≡ o → IsParseFault text h.placed o e → ⊥
    go (Some f) same i = none-some f same
    go None same i = none-some i.0 (sym (no_fault x h.shallow) ∙ (ap grammar_fault h.spells ∙ i.1))

pub one_outcome : (text : List ℕ) (r s : Result Syntax Fault) → Parses text r → Parses text s → r ≡ s
one_outcome text (Ok x) (Ok y) h g =
    let one = one_lexing 0 text h.placed g.placed None None h.lexes g.lexes in
    ap Ok (one_tree_for x y [] [] (ap (λ ts. ts ++ []) (h.spells ∙ (ap kinds one.0 ∙ sym g.spells)))).0
one_outcome text (Ok x) (Err e) h g = absurd (tree_no_fault text x e h g)
one_outcome text (Err e) (Ok x) h g = absurd (tree_no_fault text x e g h)
one_outcome text (Err e) (Err d) h g =
    let one = one_lexing 0 text h.placed g.placed h.stopped g.stopped h.lexes g.lexes in
    ap Err (two_faults text g.placed g.stopped e d (subst (λ (o : Option Fault). IsParseFault text g.placed o e) one.1 (subst (λ (ts : List Placed). IsParseFault text ts h.stopped e) one.0 h.fault)) g.fault)

-- The value of a text is its meaning.
use Rattle.std.specs.Prelude.{◌≡◌, ℕ, List, [], ◌∷◌, length, Option, Some, None, Result, Ok, Err, refl}
use Rattle.std.proofs.Common.{inl, inr, sym, ap, ◌∙◌, append-nil}
use Rattle.gv_model.specs.Ty.{Ty}
use Rattle.gv_model.specs.Tree.{Tree}
use Rattle.gv_model.specs.Syntax.{Syntax}
use Rattle.gv_model.specs.Tokens.{Token, Placed}
use Rattle.gv_model.specs.TextFault.{Fault}
use Rattle.gv_model.specs.Lexing.{Lexes}
use Rattle.gv_model.specs.Lexed.{lexed}
use Rattle.gv_model.specs.Grammar.{tokens_of}
use Rattle.gv_model.specs.GrammarFaults.{NumberedFault, grammar_fault}
use Rattle.gv_model.specs.Parsing.{IsTree, HasFault, IsParseFault, kinds}
use Rattle.gv_model.specs.TreeReading.{read, one_tree}
use Rattle.gv_model.specs.Chosen.{Choice}
use Rattle.gv_model.specs.Chosen.Choice.{is, no_common_type, ambiguous}
use Rattle.gv_model.specs.LeastTypes.{choice}
use Rattle.gv_model.specs.Literals.{ValueFault}
use Rattle.gv_model.specs.Literals.ValueFault.{no_common, not_clear}
use Rattle.gv_model.specs.TextValues.{HasChoice, HasValue, value_of, type_of_syntax, first_choice, contents, literal_value, within_depth, chosen_or, IsChoice}
use Rattle.gv_model.specs.Ty.Ty.{variant}
use Rattle.gv_model.specs.Tree.{tree_at}
use Rattle.gv_model.specs.Tree.Tree.{node}
use Rattle.gv_model.specs.Tree.Trees.{none, first}
use Rattle.gv_model.specs.Typed.{HasType}
use Rattle.gv_model.proofs.RoundTrip.{round_trip}
use Rattle.gv_model.proofs.TokenLaws.{lexed_right, one_lexing}
use Rattle.gv_model.proofs.GrammarLaws.{read_of, no_fault}
use Rattle.gv_model.proofs.FaultlessTokens.{whole}
use Rattle.gv_model.proofs.PatternLaws.{admits_chosen, choice_right}
use Rattle.gv_model.proofs.TypeOrder.{one_choice}
use Rattle.gv_model.proofs.TypeWeights.{no_type_is, no_clear_is}
use Rattle.dconf_model.specs.Causes.{SettingsCause}
use Rattle.dconf_model.specs.Causes.SettingsCause.{text_fault, value_fault}
use Rattle.dconf_model.specs.Values.{StoredIsHeld, value_of_text, of_tokens, of_grammar, or_value_fault, IsMeaning, HasNoType, TextHasItsValue, HasOneMeaning}

abbrev pub Ends : (Syntax → Choice) → List Syntax → Choice → Ty → Type 0
Ends choose xs c t = (c ≡ is t) × (first_choice choose xs (is t) ≡ is t)

after_one : (choose : Syntax → Choice) (x : Syntax) (xs : List Syntax) (c : Choice) (t : Ty) → first_choice choose (x ∷ xs) c ≡ is t →
    (first_choice choose xs c ≡ is t → Ends choose xs c t) → Ends choose (x ∷ xs) c t
after_one choose x xs c t e later = go (choose x) refl
  where
    go : (d : Choice) → choose x ≡ d → Ends choose (x ∷ xs) c t
    go (is u) same = let rest = later (rw same at e) in (rest.0, rw same rest.1)
    go no_common_type same = absurd (no_type_is t (rw same at e))
    go ambiguous same = absurd (no_clear_is t (rw same at e))

pub last_is : (choose : Syntax → Choice) (xs : List Syntax) (c : Choice) (t : Ty) → first_choice choose xs c ≡ is t → Ends choose xs c t
last_is choose [] c t e = (e, refl)
last_is choose (x ∷ xs) c t e = after_one choose x xs c t e (last_is choose xs c t)

-- ---- from syntax to a value

by_type : (s : List ℕ) (x : Syntax) → IsTree s x → (t : Ty) → type_of_syntax x ≡ is t → (r : Result Tree ValueFault) → within_depth (literal_value choice x t) ≡ r → IsMeaning s (or_value_fault r)
unfolding type_of_syntax
by_type s x tree t e r same = go r same
  where
    ends : Ends choice (contents x) (choice x) t
    ends = last_is choice (contents x) (choice x) t e

    chosen : HasChoice x (is t)
    chosen = record { choose = choice; chosen = choice_right; comes = sym e }

    has : (r : Result Tree ValueFault) → within_depth (literal_value choice x t) ≡ r → HasValue x t r
    has r same = record {
      choose = choice;
      chosen = choice_right;
      fits = λ a. rw ends.1 (sym same);
      unfit = λ not_admitted. absurd (not_admitted (admits_chosen x t ends.0));
    }

    go : (r : Result Tree ValueFault) → within_depth (literal_value choice x t) ≡ r → IsMeaning s (or_value_fault r)
    go (Ok v) same = (x, tree, (t, chosen, has (Ok v) same))
    go (Err f) same = (x, tree, inr (t, chosen, has (Err f) same))

by_syntax : (s : List ℕ) (x : Syntax) → IsTree s x → (c : Choice) → type_of_syntax x ≡ c → IsMeaning s (or_value_fault (chosen_or (λ t. within_depth (literal_value choice x t)) c))
unfolding type_of_syntax
by_syntax s x tree (is t) e = by_type s x tree t e _ refl
by_syntax s x tree no_common_type e = (x, tree, inl (record { choose = choice; chosen = choice_right; comes = sym e }))
by_syntax s x tree ambiguous e = (x, tree, inl (record { choose = choice; chosen = choice_right; comes = sym e }))

of_tree : (s : List ℕ) (x : Syntax) → IsTree s x → IsMeaning s (or_value_fault (value_of x))
unfolding value_of
of_tree s x tree = by_syntax s x tree (type_of_syntax x) refl

-- ---- from tokens to syntax

read_alone : (x : Syntax) (ts : List Token) → tokens_of x ≡ ts → one_tree (read ts) ≡ Some x
unfolding read
read_alone x ts e = ap one_tree (ap read (sym e ∙ sym (append-nil (tokens_of x))) ∙ read_of x [])

grammar_meaning : (s : List ℕ) (ts : List Placed) → Lexes 0 s ts None → (g : Option NumberedFault) → grammar_fault (kinds ts) ≡ g → IsMeaning s (of_grammar (length s) ts g)
grammar_meaning s ts h (Some f) e = record { placed = ts; stopped = None; lexes = h; fault = (f, e, refl) }
grammar_meaning s ts h None e =
    let w = whole (kinds ts) e in
    rw (read_alone w.0 (kinds ts) w.1) (of_tree s w.0 (record { placed = ts; lexes = h; spells = w.1; shallow = w.2 }))

tokens_meaning : (s : List ℕ) (ts : List Placed) (f : Option Fault) → Lexes 0 s ts f → IsMeaning s (of_tokens (length s) ts f)
tokens_meaning s ts (Some f) h = record { placed = ts; stopped = Some f; lexes = h; fault = refl }
tokens_meaning s ts None h = grammar_meaning s ts h (grammar_fault (kinds ts)) refl

pub text_has_its_value : TextHasItsValue
unfolding value_of_text
text_has_its_value s = tokens_meaning s (lexed 0 0 s).0 (lexed 0 0 s).1 (lexed_right 0 0 s)

-- ---- and the only one

same_choice : (choose : Syntax → Choice) → IsChoice choose → choose ≡ choice
same_choice choose h = λ i x. one_choice x (choose x) (choice x) (h x) (choice_right x) i

-- what is said of syntax is what is computed of it
of_choice : (x : Syntax) (c : Choice) → HasChoice x c → c ≡ type_of_syntax x
unfolding type_of_syntax
of_choice x c h = h.comes ∙ ap (λ f. first_choice f (contents x) (f x)) (same_choice h.choose h.chosen)

of_value : (x : Syntax) (t : Ty) (r : Result Tree ValueFault) → HasChoice x (is t) → HasValue x t r → value_of x ≡ r
unfolding value_of type_of_syntax
of_value x t r c h =
    let typed : type_of_syntax x ≡ is t = sym (of_choice x (is t) c) in
    let ends = last_is choice (contents x) (choice x) t typed in
    let fits = h.fits (admits_chosen x t ends.0) in
    rw typed (sym (fits ∙ ap (λ f. chosen_or (λ u. within_depth (literal_value f x t)) (first_choice f (contents x) (is t))) (same_choice h.choose h.chosen)
    ∙ ap (chosen_or (λ u. within_depth (literal_value choice x t))) ends.1))

of_none : (x : Syntax) (f : ValueFault) → HasNoType x f → value_of x ≡ Err f
unfolding value_of
of_none x no_common c = rw (← of_choice x no_common_type c) refl
of_none x not_clear c = rw (← of_choice x ambiguous c) refl
of_none x ValueFault.out_of_range c = absurd c
of_none x ValueFault.bad_object_path c = absurd c
of_none x ValueFault.bad_signature c = absurd c
of_none x ValueFault.double_text c = absurd c
of_none x ValueFault.too_deep c = absurd c

pub with_tree : (s : List ℕ) (x : Syntax) → IsTree s x → value_of_text s ≡ or_value_fault (value_of x)
unfolding value_of_text
with_tree s x tree =
    let one = one_lexing 0 s (lexed 0 0 s).0 tree.placed (lexed 0 0 s).1 None (lexed_right 0 0 s) tree.lexes in
    let faultless : grammar_fault (kinds tree.placed) ≡ None = ap grammar_fault (sym tree.spells) ∙ no_fault x tree.shallow in
    rw (one.0, one.1, faultless, read_alone x (kinds tree.placed) tree.spells) refl

with_fault : (s : List ℕ) (f : Fault) → HasFault s f → value_of_text s ≡ Err (text_fault f)
unfolding value_of_text
with_fault s f h =
    let one = one_lexing 0 s (lexed 0 0 s).0 h.placed (lexed 0 0 s).1 h.stopped (lexed_right 0 0 s) h.lexes in
    rw (one.0, one.1) (go h.stopped h.fault)
  where
    go : (stopped : Option Fault) → IsParseFault s h.placed stopped f → of_tokens (length s) h.placed stopped ≡ Err (text_fault f)
    go (Some e) fault = ap (λ e. Err (text_fault e)) (sym fault)
    go None fault = rw fault.1 (ap (λ e. Err (text_fault e)) (sym fault.2))

pub computed : (s : List ℕ) (r : Result Tree SettingsCause) → IsMeaning s r → value_of_text s ≡ r
computed s (Ok v) h = with_tree s h.0 h.1 ∙ ap or_value_fault (of_value h.0 h.2.0 (Ok v) h.2.1 h.2.2)
computed s (Err (text_fault f)) h = with_fault s f h
computed s (Err (value_fault f)) h = with_tree s h.0 h.1 ∙ ap or_value_fault (elim h.2 [ inl untyped ↦ of_none h.0 f untyped | inr by ↦ of_value h.0 by.0 (Err f) by.1 by.2 ])
computed s (Err _) h = absurd h

pub has_one_meaning : HasOneMeaning
has_one_meaning s p q h g = sym (computed s p h) ∙ computed s q g

-- ---- what is stored comes back

pub stored_is_held : StoredIsHeld
unfolding tree_at
stored_is_held v whole fits =
    let typed : HasType (node variant (first v none)) variant = record { type = refl; value = (fits, (whole, tt)) } in
    rw (round_trip variant (node variant (first v none)) typed) refl

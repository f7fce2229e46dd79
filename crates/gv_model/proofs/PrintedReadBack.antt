-- What is printed is read back.
use Rattle.std.proofs.Common.{◌≡◌, ◌≤◌, ℕ, true, false, List, [], Option, None, Result, Ok, refl, sym, ap, ◌∙◌, subst, arith, append-nil}
use Rattle.std.specs.Prelude.{nat_le, ◌↔◌}
use Rattle.std.proofs.lemmas.Bool.{or_parts, le-leb}
use Rattle.std.proofs.lemmas.List.{length-append}
use Rattle.gv_model.specs.Ty.{Ty, Basic, spelling, spellings, nesting}
use Rattle.gv_model.specs.Ty.Ty.{basic, variant, array, maybe, tuple, entry}
use Rattle.gv_model.specs.Ty.Basic.{string, path, signature}
use Rattle.gv_model.specs.TypeText.{IsWithinLimits}
use Rattle.gv_model.specs.Layout.{basic_size}
use Rattle.gv_model.specs.Tree.{Tree, Trees, type_of, depth}
use Rattle.gv_model.specs.Tree.Tree.{number, text, node}
use Rattle.gv_model.specs.Tree.Trees.{none as no_tree, first as first_tree}
use Rattle.gv_model.specs.Typed.{HasType, IsValue, AreValues, MayHold, AllOf, types_of}
use Rattle.gv_model.specs.Admits.{IsTextType}
use Rattle.gv_model.specs.Printed.{printed, holds_double, hold_double}
use Rattle.gv_model.specs.TextFault.{Fault}
use Rattle.gv_model.specs.Tokens.{Token}
use Rattle.gv_model.specs.Syntax.{Syntax, levels}
use Rattle.gv_model.specs.Grammar.{tokens_of}
use Rattle.gv_model.specs.Lexing.{Lexes}
use Rattle.gv_model.specs.Lexed.{lexed}
use Rattle.gv_model.specs.Parsing.{IsTree}
use Rattle.gv_model.specs.Chosen.{Choice}
use Rattle.gv_model.specs.Chosen.Choice.{is}
use Rattle.gv_model.specs.Literals.{ValueFault}
use Rattle.gv_model.specs.LeastTypes.{choice}
use Rattle.gv_model.specs.TextValues.{IsChoice, HasValue, HasChoice, literal_value, within_depth, chosen_or, contents, first_choice}
use Rattle.gv_model.specs.PrintedLaws.{ReadsBack}
use Rattle.gv_model.proofs.TokenLaws.{lexed_right}
use Rattle.gv_model.proofs.TypeTextLaws.{limits_of}
use Rattle.gv_model.proofs.PatternLaws.{choice_right}
use Rattle.gv_model.proofs.LimitedTypes.{IsLimited, AreLimited, in_array, in_maybe, in_tuple, in_entry}
use Rattle.gv_model.proofs.PrintedSyntax.{syntax_of, Printable, ArePrintable}
use Rattle.gv_model.proofs.PrintedLevels.{levels_of}
use Rattle.gv_model.proofs.PrintedAdmits.{admits_of, chosen_of}
use Rattle.gv_model.proofs.PrintedValues.{last_choice, chosen_for, contents_of, gives_of}
use Rattle.gv_model.proofs.PrintedReads.{Tokens, read, with_tokens}
use Rattle.gv_model.proofs.PrintedTokens.{reads_of}

-- ---- the parts of a value are within the limits, too

abbrev AllLimited : Trees → Type 0
AllLimited no_tree = Unit {0}
AllLimited (first_tree v vs) = IsLimited (type_of v) × AllLimited vs

of_one_type : (t : Ty) (vs : Trees) → IsLimited t → AllOf t vs → AllLimited vs
of_one_type t no_tree l e = tt
of_one_type t (first_tree v vs) l e = (subst IsLimited (sym e.0) l, of_one_type t vs l e.1)

of_members : (vs : Trees) → AreLimited (types_of vs) → AllLimited vs
unfolding nesting spelling
of_members no_tree l = tt
of_members (first_tree v vs) l =
    let a = l.shallow in let b = l.short in let n = length-append (spelling (type_of v)) (spellings (types_of vs)) in
    (record { shallow = omega arith; short = omega arith }, of_members vs (record { shallow = omega arith; short = omega arith }))

children_limited : (t : Ty) (vs : Trees) → MayHold t vs → IsLimited t → AllLimited vs
children_limited (basic k) vs h l = absurd h
children_limited variant no_tree h l = absurd h
children_limited variant (first_tree v no_tree) h l = let m = limits_of (type_of v) _ h in (record { shallow = m.0; short = m.1 }, tt)
children_limited variant (first_tree v (first_tree w vs)) h l = absurd h
children_limited (array t) vs h l = of_one_type t vs (in_array t l) h
children_limited (maybe t) no_tree h l = tt
children_limited (maybe t) (first_tree v no_tree) h l = (subst IsLimited (sym h) (in_maybe t l), tt)
children_limited (maybe t) (first_tree v (first_tree w vs)) h l = absurd h
children_limited (tuple ts) vs h l = of_members vs (subst AreLimited (sym h) (in_tuple ts l))
children_limited (entry k t) vs h l = of_members vs (subst AreLimited (sym h) (in_entry k t l))

text_kind : (k : Basic) → basic_size k ≡ None → IsTextType (basic k)
text_kind string e = tt
text_kind path e = tt
text_kind signature e = tt
text_kind _ e = absurd (cc)

mutual
  unfolding holds_double

  printable_of : (v : Tree) → IsValue v → IsLimited (type_of v) → holds_double v ≡ false → Printable v
  printable_of (number k n) h l d = (h, d)
  printable_of (text k s) h l d = (text_kind k h.no_number, h)
  printable_of (node t vs) h l d = (h.0, l, are_printable vs h.1 (children_limited t vs h.0 l) d)

  are_printable : (vs : Trees) → AreValues vs → AllLimited vs → hold_double vs ≡ false → ArePrintable vs
  are_printable no_tree h l d = tt
  are_printable (first_tree v vs) h l d =
      let e = or_parts (holds_double v) (hold_double vs) d in
      (printable_of v h.0 l.0 e.0, are_printable vs h.1 l.1 e.1)

-- ---- the law

nothing_left : (at : ℕ) → read at [] ≡ ([], None)
unfolding read lexed
nothing_left at = refl

tree_from : (s : List ℕ) (x : Syntax) → read 0 s ≡ (tokens_of x, None) → levels x ≤ 128 → IsTree s x
unfolding read
tree_from s x e l = record {
  placed = (lexed 0 0 s).0;
  lexes = subst (λ (f : Option Fault). Lexes 0 s (lexed 0 0 s).0 f) (ap (λ (r : Tokens). r.1) e) (lexed_right 0 0 s);
  spells = ap (λ (r : Tokens). r.0) (sym e);
  shallow = l;
}

printed_tree : (v : Tree) → Printable v → depth v ≤ 127 → IsTree (printed v true) (syntax_of v true)
printed_tree v p d =
    let r = (reads_of v true p).reads 0 [] tt in
    let e : read 0 (printed v true) ≡ (tokens_of (syntax_of v true), None)
    = ap (read 0) (sym (append-nil (printed v true))) ∙ (r ∙ (ap (with_tokens (tokens_of (syntax_of v true))) (nothing_left _) ∙ ap (λ (ts : List Token). (ts, None)) (append-nil (tokens_of (syntax_of v true))))) in
    let l = levels_of v true in
    tree_from (printed v true) (syntax_of v true) e (omega (arith, l, d))

-- whatever function gives the chosen types
choice_is : (choose : Syntax → Choice) → IsChoice choose → (v : Tree) → Printable v → nesting (type_of v) ≤ 128 → first_choice choose (contents (syntax_of v true)) (choose (syntax_of v true)) ≡ is (type_of v)
choice_is choose c v p n = last_choice choose (contents (syntax_of v true)) (choose (syntax_of v true)) (contents_of choose c v true p) ∙ chosen_for choose c v p n

printed_choice : (v : Tree) → Printable v → nesting (type_of v) ≤ 128 → (c : Choice) → HasChoice (syntax_of v true) c ↔ (c ≡ is (type_of v))
printed_choice v p n c = (
  (λ h. h.comes ∙ choice_is h.choose h.chosen v p n),
  (λ e. record { choose = choice; chosen = choice_right; comes = e ∙ sym (choice_is choice choice_right v p n) }),
)

value_is : (choose : Syntax → Choice) → IsChoice choose → (v : Tree) → Printable v → depth v ≤ 127
    → chosen_or (λ u. within_depth (literal_value choose (syntax_of v true) (type_of v))) (first_choice choose (contents (syntax_of v true)) (is (type_of v))) ≡ Ok v
value_is choose c v p d =
    let deep : nat_le (depth v) 128 ≡ true = le-leb (depth v) 128 (omega (arith, d)) in
    rw (last_choice choose (contents (syntax_of v true)) (is (type_of v)) (contents_of choose c v true p), gives_of choose c v true p, deep) refl

printed_value : (v : Tree) → Printable v → depth v ≤ 127 → (r : Result Tree ValueFault) → HasValue (syntax_of v true) (type_of v) r ↔ (r ≡ Ok v)
printed_value v p d r = (
  (λ h. h.fits (admits_of v true p) ∙ value_is h.choose h.chosen v p d),
  (λ e. record {
    choose = choice;
    chosen = choice_right;
    fits = λ a. e ∙ sym (value_is choice choice_right v p d);
    unfit = λ no. absurd (no (admits_of v true p));
  }),
)

of_its_type : (v : Tree) → IsValue v → IsWithinLimits (type_of v) → holds_double v ≡ false → depth v ≤ 127 → ReadsBack (type_of v) v
of_its_type v value limits single shallow =
    let m = limits_of (type_of v) _ limits in
    let p = printable_of v value (record { shallow = m.0; short = m.1 }) single in
    record { syntax = syntax_of v true; parses = printed_tree v p shallow; chosen = chosen_of v p m.0; choice = printed_choice v p m.0; value = printed_value v p shallow }

pub reads_back : (t : Ty) (v : Tree) → HasType v t → IsWithinLimits t → holds_double v ≡ false → depth v ≤ 127 → ReadsBack t v
reads_back t v h limits single shallow =
    subst (λ (u : Ty). ReadsBack u v) h.type (of_its_type v h.value (subst (λ (u : Ty). IsWithinLimits u) (sym h.type) limits) single shallow)

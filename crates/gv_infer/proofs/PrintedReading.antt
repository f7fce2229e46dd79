-- What is printed is read as the value that it was printed for.
use Rattle.std.proofs.Common.{◌≡◌, ℕ, true, List, Result, Ok, Err, refl, subst}
use Rattle.gv_model.specs.Ty.{Ty}
use Rattle.gv_model.specs.Tree.{Tree}
use Rattle.gv_model.specs.Printed.{printed}
use Rattle.gv_model.specs.Syntax.{Syntax}
use Rattle.gv_model.specs.Parsing.{IsTree}
use Rattle.gv_model.specs.Chosen.{Choice}
use Rattle.gv_model.specs.Chosen.Choice.{is}
use Rattle.gv_model.specs.Literals.{ValueFault as TheFault}
use Rattle.gv_model.specs.TextValues.{HasChoice, HasValue}
use Rattle.gv_model.specs.PrintedLaws.{ReadsBack}
use Rattle.gv_model.proofs.TextOutcomes.{one_outcome, tree_no_fault}
use Rattle.gv_model.proofs.PrintedReadBack.{reads_back}
use Rattle.refused.proofs.Faults.{only_memory}
use Rattle.gv_syntax.specs.ModelTokens.{fault_at_span}
use Rattle.gv_infer.specs.Typings.{choice_of}
use Rattle.gv_infer.specs.ValueFaults.{fault_of}
use Rattle.gv_infer.specs.declared.fault.TypingFlaw.{TypingFlaw}
use Rattle.gv_infer.specs.declared.fault.TypingFlaw.TheVariants.{NoCommonType, Ambiguous}
use Rattle.gv_infer.specs.declared.fault.ReadFlaw.{ReadFlaw}
use Rattle.gv_infer.specs.declared.fault.ReadFlaw.TheVariants.{Text, Typing, Value}
use Rattle.gv_infer.specs.Reads.{Reads, IsReadFlaw}
use Rattle.gv_infer.specs.PrintedTexts.{PrintedIsRead}

-- a text has one syntax tree, and then no fault
one_tree : (text : List ℕ) (x y : Syntax) → IsTree text x → IsTree text y → x ≡ y
one_tree text x y h g = let same : Ok x ≡ Ok y = one_outcome text (Ok x) (Ok y) h g in cc

-- what comes of the choice of the text's own type
choice_is : (t : Ty) (v : Tree) (b : ReadsBack t v) (x : Syntax) (c : Choice) → IsTree (printed v true) x → HasChoice x c → c ≡ is t
choice_is t v b x c tree h = (b.choice c).0 (subst (λ y. HasChoice y c) (one_tree (printed v true) x b.syntax tree b.parses) h)

same_type : (t u : Ty) → is t ≡ is u → t ≡ u
same_type t u e = cc

value_is : (t : Ty) (v : Tree) (b : ReadsBack t v) (r : Result Tree TheFault) → Reads (printed v true) r → r ≡ Ok v
value_is t v b r h =
    let type = same_type h.type t (choice_is t v b h.syntax (is h.type) h.tree h.chosen) in
    let value = subst (λ u. HasValue h.syntax u r) type h.value in
    (b.value r).0 (subst (λ x. HasValue x t r) (one_tree (printed v true) h.syntax b.syntax h.tree b.parses) value)

value_reads : (t : Ty) (v : Tree) (b : ReadsBack t v) (r : Result Tree TheFault) → r ≡ Ok v → Reads (printed v true) r
value_reads t v b r e = record { syntax = b.syntax; tree = b.parses; type = t; chosen = (b.choice (is t)).1 refl; value = (b.value r).1 e }

no_type_fault : (t : Ty) (f : TypingFlaw) → choice_of f ≡ is t → ⊥
no_type_fault t NoCommonType e = cc
no_type_fault t Ambiguous e = cc

no_fault : (t : Ty) (v : Tree) (b : ReadsBack t v) (f : ReadFlaw) → IsReadFlaw (printed v true) f → ⊥
no_fault t v b (Text f) h = tree_no_fault (printed v true) b.syntax (fault_at_span f.cause f.span) b.parses h
no_fault t v b (Typing f) h = no_type_fault t f (choice_is t v b h.syntax (choice_of f) h.tree h.chosen)
no_fault t v b (Value f) h = let same : Err (fault_of f) ≡ Ok v = value_is t v b (Err (fault_of f)) h in absurd cc

pub printed_read : PrintedIsRead
printed_read t v h limits single shallow =
    let b = reads_back t v h limits single shallow in
    record { value = λ r. (value_is t v b r, value_reads t v b r); fault = only_memory (IsReadFlaw (printed v true)) (no_fault t v b) }

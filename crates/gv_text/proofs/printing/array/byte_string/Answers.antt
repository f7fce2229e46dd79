use Rattle.std.proofs.Common.{◌≡◌, ◌++◌, ◌∷◌, [], ℕ, List, sym, ap, ◌∙◌, Some}
use Rattle.std.specs.Prelude.{option_map}
use Rattle.std.proofs.lemmas.Bool.{false≢true}
use Rattle.gv_model.specs.BasicValue.{text_in}
use Rattle.gv_model.specs.Tree.{Tree, byte_trees}
use Rattle.gv_model.specs.Tree.Tree.{node}
use Rattle.gv_model.specs.Ty.Ty.{basic, array}
use Rattle.gv_model.specs.Ty.Basic.{byte}
use Rattle.gv_view.specs.Views.{value, view_ty, view_bytes}
use Rattle.gv_text.specs.Printing.{byte_string_of}
use Rattle.gv_text.proofs.ArrayTexts.{no_byte_string, numbers-byte_trees, string_levels, value_bytes_plain}
use Rattle.gv_text.proofs.Quotes.{body_of_text, no_zero_end, zero_inside, text_in-nil}
use Rattle.gv_text.proofs.printing.array.byte_string.Goals as goal
use Rattle.gv_text.proofs.printing.array.byte_string.Goals.{else-last-eq0-via-then-last-eq0+else-not-contains, else-last-eq0-via-else-last-eq0}

-- what an array of bytes is as a byte string
of_bytes : (v : Tree) (b : List ℕ) → v ≡ node (array (basic byte)) (byte_trees b) → byte_string_of v ≡ text_in b
of_bytes v b e = ap byte_string_of e ∙ ap text_in (numbers-byte_trees b)

pub returns-in_err-as_bytes-clause-text : goal.returns-in_err-as_bytes-clause-text
returns-in_err-as_bytes-clause-text c =
    ap (option_map (λ b. b.now)) c.from_residual.ensures ∙ sym (no_byte_string (view_ty c.args.view) (view_bytes c.args.view) (λ e. false≢true (c.in_err-as_bytes.ensures.some.1 e)))

pub returns-in_err-last-clause-text : goal.returns-in_err-last-clause-text
returns-in_err-last-clause-text c =
    let b = c.in_ok-as_bytes.field-0.now in
    ap (option_map (λ b. b.now)) c.from_residual-in_err-last.ensures ∙ sym (of_bytes (value c.args.view) b c.in_ok-as_bytes.ensures.value ∙ text_in-nil b c.in_err-last.ensures.cases)

pub returns-then-not-contains-clause-text : goal.returns-then-not-contains-clause-text
returns-then-not-contains-clause-text c =
    let parts = c.in_ok-last.ensures.cases.0 ∙ ap (λ n. c.in_ok-last.body.now ++ n ∷ []) c.if-last-eq0.true in
    sym (of_bytes (value c.args.view) c.in_ok-as_bytes.field-0.now c.in_ok-as_bytes.ensures.value ∙ (ap text_in parts ∙ body_of_text c.in_ok-last.body.now (sym c.if-not-contains.ensures.value)))

pub returns-then-not-contains-clause-plain : goal.returns-then-not-contains-clause-plain
returns-then-not-contains-clause-plain c = value_bytes_plain (value c.args.view) c.in_ok-as_bytes.field-0.now c.in_ok-as_bytes.ensures.value

pub returns-then-not-contains-clause-levels : goal.returns-then-not-contains-clause-levels
returns-then-not-contains-clause-levels c =
    let parts = c.in_ok-last.ensures.cases.0 ∙ ap (λ n. c.in_ok-last.body.now ++ n ∷ []) c.if-last-eq0.true in
    string_levels (value c.args.view) c.in_ok-as_bytes.field-0.now (Some c.in_ok-last.body) c.in_ok-as_bytes.ensures.value (sym (ap text_in parts ∙ body_of_text c.in_ok-last.body.now (sym c.if-not-contains.ensures.value)))

pub returns-else-last-eq0-clause-text : goal.returns-else-last-eq0-clause-text
returns-else-last-eq0-clause-text c =
    let b = c.in_ok-as_bytes.field-0.now in
    let body = c.in_ok-last.body.now in
    let whole = of_bytes (value c.args.view) b c.in_ok-as_bytes.ensures.value ∙ ap text_in c.in_ok-last.ensures.cases.0 in
    elim c.else-last-eq0.branch [
      | else-last-eq0-via-then-last-eq0+else-not-contains w ↦ sym (whole ∙ zero_inside body c.in_ok-last.last.now (sym w.if-not-contains.ensures.value))
      | else-last-eq0-via-else-last-eq0 w ↦ sym (whole ∙ no_zero_end body c.in_ok-last.last.now w.if-last-eq0.false)
    ]

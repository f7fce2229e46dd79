use Rattle.std.proofs.Common.{◌∙◌, sym, Some, None}
use Rattle.gv_model.specs.Ty.Basic.{signature}
use Rattle.gv_view.proofs.TextLemmas.{signature_value, allowed, not_allowed}
use Rattle.gv_view.proofs.text.signature_in.Goals as goal
use Rattle.gv_view.proofs.text.signature_in.Goals.{in_default-via-in-Some+else-is_signature, in_default-via-in_default}

pub returns-in-Some : goal.returns-in-Some
returns-in-Some c =
    let s = c.in-Some.text.now in
    signature_value c.args.bytes.now (Some s) c.in-Some.ensures ∙ allowed signature s (sym c.if-is_signature.ensures)

pub returns-in_default : goal.returns-in_default
returns-in_default c = elim c.in_default.branch [
  | in_default-via-in-Some+else-is_signature w ↦ signature_value c.args.bytes.now (Some w.in-Some.text.now) w.in-Some.ensures ∙ not_allowed signature w.in-Some.text.now (sym w.if-is_signature.ensures)
  | in_default-via-in_default w ↦ signature_value c.args.bytes.now None w.in_default.ensures
]

use Rattle.std.proofs.Common.{◌∙◌, sym, Some, None}
use Rattle.gv_model.specs.Ty.Basic.{path}
use Rattle.gv_view.proofs.TextLemmas.{path_value, allowed, not_allowed}
use Rattle.gv_view.proofs.text.object_path_in.Goals as goal
use Rattle.gv_view.proofs.text.object_path_in.Goals.{in_default-via-in-Some+else-is_object_path, in_default-via-in_default}

pub returns-in-Some : goal.returns-in-Some
returns-in-Some c =
    let s = c.in-Some.text.now in
    path_value c.args.bytes.now (Some s) c.in-Some.ensures ∙ allowed path s (sym c.if-is_object_path.ensures)

pub returns-in_default : goal.returns-in_default
returns-in_default c = elim c.in_default.branch [
  | in_default-via-in-Some+else-is_object_path w ↦ path_value c.args.bytes.now (Some w.in-Some.text.now) w.in-Some.ensures ∙ not_allowed path w.in-Some.text.now (sym w.if-is_object_path.ensures)
  | in_default-via-in_default w ↦ path_value c.args.bytes.now None w.in_default.ensures
]

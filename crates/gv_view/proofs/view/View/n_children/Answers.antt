use Rattle.std.proofs.Common.{sym, ◌∙◌}
use Rattle.gv_model.proofs.ChildLaws.{children_count}
use Rattle.gv_view.specs.Views.{view_ty, view_bytes}
use Rattle.gv_view.proofs.view.View.n_children.Goals as goal

pub returns : goal.returns
returns c = c.n_children.ensures ∙ sym (children_count (view_ty c.args.self) (view_bytes c.args.self))

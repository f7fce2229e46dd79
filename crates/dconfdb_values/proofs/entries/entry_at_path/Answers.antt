use Rattle.std.proofs.Common.{ap, ◌∙◌}
use Rattle.gv_view.specs.Views.{view_ty, view_bytes}
use Rattle.gv_view.specs.Children.{children_left}
use Rattle.dconfdb_values.proofs.PathEntries.{all_of, rest_of}
use Rattle.dconfdb_values.proofs.entries.entry_at_path.Goals as goal

pub loop-entry-init : goal.loop-entry-init
loop-entry-init c =
    all_of (view_ty c.args.view) (view_bytes c.args.view) c.args.key.now (children_left c.into_iter-entry-iterator.result) c.requires
    (ap children_left c.into_iter-entry-iterator.ensures.into_iter_gives ∙ c.children-entry-items.ensures)

pub loop-entry-preserved : goal.loop-entry-preserved
loop-entry-preserved c =
    rest_of (view_ty c.args.view) (view_bytes c.args.view) c.args.key.now (children_left c.loop-entry.entry-iterator) (children_left c.next.new.self)
    c.in-Some.entry c.loop-entry.invariant c.in-Some.ensures.steps c.in_default.ensures

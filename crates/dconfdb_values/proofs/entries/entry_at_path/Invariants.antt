use Rattle.gv_view.specs.Views.{view_ty, view_bytes}
use Rattle.gv_view.specs.Children.{children_left}
use Rattle.dconfdb_values.proofs.PathEntries.{IsRest}
use Rattle.dconfdb_values.proofs.entries.entry_at_path.Given as goal

abbrev pub invariant-loop-entry : goal.invariant-loop-entry
invariant-loop-entry l = IsRest (view_ty l.view) (view_bytes l.view) l.key (children_left l.entry-iterator)

use Rattle.gv_view.specs.Views.{view_ty, view_bytes}
use Rattle.gv_view.specs.Children.{children_left}
use Rattle.gv_view.proofs.EntryLemmas.{IsRest}
use Rattle.gv_view.proofs.view.View.entry.Given as goal

abbrev pub invariant-loop-entry : goal.invariant-loop-entry
invariant-loop-entry l = IsRest (view_ty l.self) (view_bytes l.self) l.key (children_left l.entry-iterator)

use Rattle.std.proofs.Common.{drop, ◌≤◌}
use Rattle.gv_tree.specs.Nodes.{trees_of}
use Rattle.gv_tree.specs.Sums.{top}
use Rattle.gv_tree.proofs.SumLaws.{SumsTo}
use Rattle.gv_tree.proofs.sums.Sums.of.Given as goal

abbrev pub invariant-loop-tree : goal.invariant-loop-tree
invariant-loop-tree l = record {
  so_far : SumsTo l.sums (trees_of (drop l.tree-index l.trees)) (trees_of l.trees);
  values : l.sums.values ≤ top;
  type_bytes : l.sums.type_bytes ≤ top;
}

use Rattle.std.proofs.Common.{arith, subst, ◌≡◌, drop, []}
use Rattle.std.proofs.lemmas.List.{drop_all}
use Rattle.gv_tree.specs.Nodes.{trees_of}
use Rattle.gv_tree.proofs.SumLaws.{SumsTo, sums_start, sums_step, sums_end}
use Rattle.gv_tree.proofs.sums.Sums.of.Goals as goal
use Rattle.gv_model.proofs.ListLaws.{drop_item}

pub loop-tree-init : goal.loop-tree-init
loop-tree-init c = record {
  so_far = sums_start _ _ c.none-sums.ensures;
  values = omega (arith, c.none-sums.ensures.values);
  type_bytes = omega (arith, c.none-sums.ensures.type_bytes);
}

pub loop-tree-preserved : goal.loop-tree-preserved
loop-tree-preserved c =
    let xs = c.args.trees.now in
    let here = drop_item xs c.loop-tree.tree-index c.tree-item.result c.loop-tree-test.true c.tree-item.is in
    record {
      so_far = sums_step _ _ c.tree-item.result _ _ (subst (λ ys. SumsTo c.loop-tree.sums (trees_of ys) (trees_of xs)) here c.loop-tree.invariant.so_far) c.with-sums.ensures;
      values = omega (arith, c.with-sums.ensures.values);
      type_bytes = omega (arith, c.with-sums.ensures.type_bytes);
    }

pub returns : goal.returns
returns c =
    let xs = c.args.trees.now in
    let all : drop c.loop-tree.tree-index xs ≡ [] = drop_all c.loop-tree.tree-index xs c.loop-tree-test.false in
    sums_end _ _ c.loop-tree.invariant.values c.loop-tree.invariant.type_bytes (subst (λ ys. SumsTo c.loop-tree.sums (trees_of ys) (trees_of xs)) all c.loop-tree.invariant.so_far)

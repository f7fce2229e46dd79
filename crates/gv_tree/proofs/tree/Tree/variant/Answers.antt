use Rattle.std.proofs.Common.{refl, ap, ◌∙◌}
use Rattle.std.proofs.lemmas.Result.{err_from_is_err_and}
use Rattle.gv_model.specs.Ty.{nesting, spelling}
use Rattle.gv_model.specs.Ty.Ty.{variant}
use Rattle.gv_model.specs.Tree.Trees.{none, first}
use Rattle.gv_tree.specs.Nodes.{trees_of}
use Rattle.gv_tree.proofs.SumLaws.{low_levels}
use Rattle.gv_tree.proofs.KeptLaws.{container_tree, kept_container}
use Rattle.gv_tree.proofs.MadeLaws.{one_sum}
use Rattle.gv_tree.proofs.tree.Tree.variant.Goals as goal

pub container-requires : goal.container-requires
container-requires c = low_levels _ _ (one_sum _ _ c.args.child c.none.ensures c.with-sums.ensures)

pub returns-in_err-sizes-clause-fault : goal.returns-in_err-sizes-clause-fault
unfolding nesting spelling
returns-in_err-sizes-clause-fault c =
    let p = err_from_is_err_and c.from_residual.result c.from_residual.ensures.1 in
    rw (p.1, p.2) (c.in_err-sizes.ensures variant (first c.args.child none) (one_sum _ _ c.args.child c.none.ensures c.with-sums.ensures) refl refl)

pub seal-requires : goal.seal-requires
unfolding nesting spelling
seal-requires c =
    let sums = one_sum _ _ c.args.child c.none.ensures c.with-sums.ensures in
    kept_container variant _ _ c.in_ok-text.text c.in_ok-children.children c.in_ok-text.ensures.ok (ap trees_of c.in_ok-children.ensures.items) sums.whole.0.limits sums.whole (c.in_ok-sizes.ensures variant (first c.args.child none) sums refl refl)

pub returns-clause-made : goal.returns-clause-made
unfolding nesting spelling
returns-clause-made c =
    let sums = one_sum _ _ c.args.child c.none.ensures c.with-sums.ensures in
    c.seal.ensures ∙ container_tree variant _ _ c.in_ok-text.text c.in_ok-children.children c.in_ok-text.ensures.ok (ap trees_of c.in_ok-children.ensures.items) (c.in_ok-sizes.ensures variant (first c.args.child none) sums refl refl)

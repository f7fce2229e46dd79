use Rattle.std.proofs.Common.{◌∙◌, subst}
use Rattle.gv_model.specs.Ty.{spelling}
use Rattle.gv_model.specs.Ty.Ty.{maybe}
use Rattle.gv_model.specs.Tree.Tree.{node}
use Rattle.gv_types.specs.TypeStr.{ty}
use Rattle.gv_tree.specs.Sums.{IsContent}
use Rattle.gv_tree.proofs.KeptLaws.{container_tree, kept_container}
use Rattle.gv_tree.proofs.MadeLaws.{option_trees, maybe_holds}
use Rattle.gv_tree.proofs.tree.Tree.maybe.Goals as goal

pub seal-requires : goal.seal-requires
unfolding spelling
seal-requires c =
    let t = ty c.args.of in
    let content = subst (λ vs. IsContent t (node (maybe t) vs) c.in_ok-sizes.sizes) (option_trees c.args.child c.as_slice.result.now c.as_slice.ensures) c.in_ok-sizes.ensures.maybe in
    kept_container (maybe t) _ _ c.in_ok-text.text c.in_ok-children.children c.in_ok-text.ensures c.in_ok-children.ensures (maybe_holds t c.args.child content.all) content.whole content.sized

pub returns-clause-made : goal.returns-clause-made
unfolding spelling
returns-clause-made c =
    let t = ty c.args.of in
    let content = subst (λ vs. IsContent t (node (maybe t) vs) c.in_ok-sizes.sizes) (option_trees c.args.child c.as_slice.result.now c.as_slice.ensures) c.in_ok-sizes.ensures.maybe in
    c.seal.ensures ∙ container_tree (maybe t) _ _ c.in_ok-text.text c.in_ok-children.children c.in_ok-text.ensures c.in_ok-children.ensures content.sized

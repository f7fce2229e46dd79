use Rattle.std.proofs.Common.{refl, ◌∙◌, subst}
use Rattle.gv_model.specs.Ty.{spelling}
use Rattle.gv_model.specs.Ty.Ty.{array}
use Rattle.gv_model.specs.Tree.Tree.{node}
use Rattle.gv_types.specs.TypeStr.{ty}
use Rattle.gv_tree.specs.Nodes.{trees_of}
use Rattle.gv_tree.specs.Sums.{IsContent}
use Rattle.gv_tree.proofs.KeptLaws.{container_tree, kept_container}
use Rattle.gv_tree.proofs.tree.Tree.array.Goals as goal

pub seal-requires : goal.seal-requires
unfolding spelling
seal-requires c =
    let t = ty c.args.of in
    let content = subst (λ ys. IsContent t (node (array t) (trees_of ys)) c.in_ok-sizes.sizes) c.as_slice.ensures.value c.in_ok-sizes.ensures.array in
    kept_container (array t) _ _ c.in_ok-text.text c.args.elements c.in_ok-text.ensures refl content.all content.whole content.sized

pub returns-clause-made : goal.returns-clause-made
unfolding spelling
returns-clause-made c =
    let t = ty c.args.of in
    let content = subst (λ ys. IsContent t (node (array t) (trees_of ys)) c.in_ok-sizes.sizes) c.as_slice.ensures.value c.in_ok-sizes.ensures.array in
    c.seal.ensures ∙ container_tree (array t) _ _ c.in_ok-text.text c.args.elements c.in_ok-text.ensures refl content.sized

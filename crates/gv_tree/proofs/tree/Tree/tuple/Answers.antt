use Rattle.std.proofs.Common.{arith, ◌∷◌, [], ◌++◌, refl, ap, ◌∙◌, subst}
use Rattle.std.proofs.lemmas.Result.{err_from_is_err_and}
use Rattle.gv_model.specs.Ty.Ty.{tuple}
use Rattle.gv_model.specs.Ty.{spelling, spellings}
use Rattle.gv_model.specs.Typed.{types_of}
use Rattle.gv_tree.specs.Nodes.{trees_of}
use Rattle.gv_tree.specs.Sums.{SumsAre}
use Rattle.gv_tree.proofs.SumLaws.{low_levels, low_type_levels}
use Rattle.gv_tree.proofs.KeptLaws.{container_tree, kept_container}
use Rattle.gv_tree.proofs.MadeLaws.{tuple_levels, tuple_bytes}
use Rattle.gv_tree.proofs.tree.Tree.tuple.Goals as goal

pub overflow_add-sums : goal.overflow_add-sums
overflow_add-sums c = omega (arith, low_type_levels _ _ c.of-sums.ensures)

pub container-requires : goal.container-requires
container-requires c = low_levels _ _ c.of-sums.ensures

pub returns-in_err-sizes-clause-fault : goal.returns-in_err-sizes-clause-fault
returns-in_err-sizes-clause-fault c =
    let vs = trees_of c.args.members.items in
    let sums = subst (λ ys. SumsAre c.of-sums.result (trees_of ys)) c.as_slice.ensures.value c.of-sums.ensures in
    let p = err_from_is_err_and c.from_residual.result c.from_residual.ensures.1 in
    rw (p.1, p.2) (c.in_err-sizes.ensures (tuple (types_of vs)) vs sums (tuple_levels _ vs sums) (tuple_bytes _ vs _ sums c.saturating_add.ensures))

pub seal-requires : goal.seal-requires
unfolding spelling
seal-requires c =
    let vs = trees_of c.args.members.items in
    let sums = subst (λ ys. SumsAre c.of-sums.result (trees_of ys)) c.as_slice.ensures.value c.of-sums.ensures in
    let sized = c.in_ok-sizes.ensures (tuple (types_of vs)) vs sums (tuple_levels _ vs sums) (tuple_bytes _ vs _ sums c.saturating_add.ensures) in
    let text = c.in_ok-text.ensures ∙ ap (λ ys. 40 ∷ (spellings (types_of (trees_of ys)) ++ 41 ∷ [])) c.as_slice-2.ensures.value in
    kept_container _ vs _ c.in_ok-text.text c.args.members text refl refl sums.whole sized

pub returns-clause-made : goal.returns-clause-made
unfolding spelling
returns-clause-made c =
    let vs = trees_of c.args.members.items in
    let sums = subst (λ ys. SumsAre c.of-sums.result (trees_of ys)) c.as_slice.ensures.value c.of-sums.ensures in
    let sized = c.in_ok-sizes.ensures (tuple (types_of vs)) vs sums (tuple_levels _ vs sums) (tuple_bytes _ vs _ sums c.saturating_add.ensures) in
    let text = c.in_ok-text.ensures ∙ ap (λ ys. 40 ∷ (spellings (types_of (trees_of ys)) ++ 41 ∷ [])) c.as_slice-2.ensures.value in
    c.seal.ensures ∙ container_tree _ vs _ c.in_ok-text.text c.args.members text refl sized

use Rattle.std.proofs.Common.{arith, rules, ◌≡◌, ◌∷◌, [], ◌++◌, true, Some, sym, ap, ◌∙◌, subst}
use Rattle.std.proofs.lemmas.Result.{err_from_is_err_and}
use Rattle.refused.specs.declared.Refused.TheVariants.{Fault}
use Rattle.gv_model.specs.Ty.{spellings}
use Rattle.gv_model.specs.Ty.Ty.{basic, entry}
use Rattle.gv_model.specs.Tree.{type_of}
use Rattle.gv_model.specs.Tree.Trees.{none, first}
use Rattle.gv_model.specs.Typed.{types_of}
use Rattle.gv_tree.specs.Nodes.{trees_of}
use Rattle.gv_tree.specs.Wholes.{entry_at_key}
use Rattle.gv_tree.specs.Faults.{IsEntryFault}
use Rattle.gv_tree.proofs.SumLaws.{low_levels, low_type_levels}
use Rattle.gv_tree.proofs.KeptLaws.{container_tree, kept_container}
use Rattle.gv_tree.proofs.MadeLaws.{two_sums, entry_levels, entry_bytes, entry_members, entry_text}
use Rattle.gv_tree.proofs.tree.Tree.entry.Goals as goal

pub overflow_add-sums : goal.overflow_add-sums
overflow_add-sums c = omega (arith, low_type_levels _ _ (two_sums _ _ _ c.args.key c.args.value c.none.ensures c.with.ensures c.with-sums.ensures))

pub container-requires : goal.container-requires
container-requires c = low_levels _ _ (two_sums _ _ _ c.args.key c.args.value c.none.ensures c.with.ensures c.with-sums.ensures)

pub returns-in_err-sizes-clause-fault : goal.returns-in_err-sizes-clause-fault
returns-in_err-sizes-clause-fault c =
    let sums = two_sums _ _ _ c.args.key c.args.value c.none.ensures c.with.ensures c.with-sums.ensures in
    let is_basic : c.is_basic.result ≡ true = search rules in
    let key = c.is_basic.ensures.0 is_basic in
    let kind : type_of c.args.key ≡ basic key.0 = sym c.type_text.ensures.text ∙ key.1 in
    let vs = first c.args.key (first c.args.value none) in
    let p = err_from_is_err_and c.from_residual.result c.from_residual.ensures.1 in
    rw (p.1, p.2) (subst (λ t. IsEntryFault (entry_at_key t c.args.key c.args.value) (Fault c.in_err-sizes.field-0.0)) (sym kind) (c.in_err-sizes.ensures (entry key.0 (type_of c.args.value)) vs sums (entry_levels _ key.0 _ _ sums kind) (entry_bytes _ key.0 _ _ _ sums kind c.saturating_add.ensures)))

pub seal-requires : goal.seal-requires
seal-requires c =
    let sums = two_sums _ _ _ c.args.key c.args.value c.none.ensures c.with.ensures c.with-sums.ensures in
    let is_basic : c.is_basic.result ≡ true = search rules in
    let key = c.is_basic.ensures.0 is_basic in
    let kind : type_of c.args.key ≡ basic key.0 = sym c.type_text.ensures.text ∙ key.1 in
    let vs = first c.args.key (first c.args.value none) in
    let sized = c.in_ok-sizes.ensures (entry key.0 (type_of c.args.value)) vs sums (entry_levels _ key.0 _ _ sums kind) (entry_bytes _ key.0 _ _ _ sums kind c.saturating_add.ensures) in
    let list = c.as_slice.ensures.value ∙ c.in_ok-children.ensures.items in
    let text = c.in_ok-text.ensures ∙ ap (λ ys. 123 ∷ (spellings (types_of (trees_of ys)) ++ 125 ∷ [])) list ∙ entry_text key.0 c.args.key c.args.value kind in
    kept_container _ vs _ c.in_ok-text.text c.in_ok-children.children text (ap trees_of c.in_ok-children.ensures.items) (entry_members key.0 c.args.key c.args.value kind) sums.whole sized

pub returns-clause-made : goal.returns-clause-made
returns-clause-made c =
    let sums = two_sums _ _ _ c.args.key c.args.value c.none.ensures c.with.ensures c.with-sums.ensures in
    let is_basic : c.is_basic.result ≡ true = search rules in
    let key = c.is_basic.ensures.0 is_basic in
    let kind : type_of c.args.key ≡ basic key.0 = sym c.type_text.ensures.text ∙ key.1 in
    let vs = first c.args.key (first c.args.value none) in
    let sized = c.in_ok-sizes.ensures (entry key.0 (type_of c.args.value)) vs sums (entry_levels _ key.0 _ _ sums kind) (entry_bytes _ key.0 _ _ _ sums kind c.saturating_add.ensures) in
    let list = c.as_slice.ensures.value ∙ c.in_ok-children.ensures.items in
    let text = c.in_ok-text.ensures ∙ ap (λ ys. 123 ∷ (spellings (types_of (trees_of ys)) ++ 125 ∷ [])) list ∙ entry_text key.0 c.args.key c.args.value kind in
    ap Some (c.seal.ensures ∙ container_tree _ vs _ c.in_ok-text.text c.in_ok-children.children text (ap trees_of c.in_ok-children.ensures.items) sized) ∙ ap (λ t. entry_at_key t c.args.key c.args.value) (sym kind)

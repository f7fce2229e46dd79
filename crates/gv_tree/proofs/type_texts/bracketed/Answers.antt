use Rattle.std.proofs.Common.{◌++◌, ap, ◌∙◌}
use Rattle.std.proofs.lemmas.List.{drop_all}
use Rattle.std.specs.Prelude.{string_bytes}
use Rattle.gv_model.specs.Ty.{spelling, spellings}
use Rattle.gv_model.specs.Typed.{types_of}
use Rattle.gv_model.proofs.ListLaws.{drop_item}
use Rattle.gv_tree.specs.Nodes.{trees_of}
use Rattle.gv_tree.proofs.TextLaws.{text_step, text_end}
use Rattle.gv_tree.proofs.type_texts.bracketed.Goals as goal

pub loop-tree-init : goal.loop-tree-init
loop-tree-init c = ap (λ s. s ++ spellings (types_of (trees_of c.args.trees.now))) c.in_ok-text.ensures.ok

pub loop-tree-preserved : goal.loop-tree-preserved
loop-tree-preserved c =
    let here = drop_item c.args.trees.now c.loop-tree.tree-index c.tree-item.result c.loop-tree-test.true c.tree-item.is in
    let said = c.as_str.ensures.spelled ∙ ap spelling c.type_text.ensures.text in
    text_step _ _ _ _ _ c.tree-item.result here (c.in_ok-push_str.ensures.bytes ∙ ap (λ s. string_bytes c.loop-tree.text ++ s) said) c.loop-tree.invariant

pub returns : goal.returns
returns c =
    let all = drop_all c.loop-tree.tree-index c.args.trees.now c.loop-tree-test.false in
    text_end _ _ _ _ _ _ all c.in_ok-push_str-2.ensures.bytes c.loop-tree.invariant

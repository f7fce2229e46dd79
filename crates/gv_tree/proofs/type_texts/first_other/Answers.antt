use Rattle.std.proofs.Common.{rules, ◌≡◌, sym, ap, ◌∙◌}
use Rattle.gv_model.specs.Ty.{spelling}
use Rattle.gv_model.proofs.TypeTextLaws.{one_spelling}
use Rattle.gv_tree.proofs.ListLaws.{all_of_more, first_other_here, texts_differ}
use Rattle.gv_tree.proofs.type_texts.first_other.Goals as goal

pub returns-then-ne : goal.returns-then-ne
returns-then-ne c =
    first_other_here _ c.args.trees.now c.loop-i.i c.index-trees-i.result c.loop-i-test.true c.index-trees-i.is
    (λ same. texts_differ _ _ c.if-ne.ensures (c.as_str.ensures.spelled ∙ ap spelling (c.type_text.ensures.text ∙ same) ∙ sym c.as_str-in-loop-i.ensures.spelled))
    c.loop-i.invariant

pub loop-i-preserved : goal.loop-i-preserved
loop-i-preserved c =
    let texts : c.as_str.result.now ≡ c.as_str-in-loop-i.result.now = search rules in
    let same = one_spelling _ _ (sym c.as_str.ensures.spelled ∙ texts ∙ c.as_str-in-loop-i.ensures.spelled) in
    all_of_more _ c.args.trees.now c.loop-i.i c.index-trees-i.result c.loop-i-test.true c.index-trees-i.is (sym c.type_text.ensures.text ∙ same) c.loop-i.invariant

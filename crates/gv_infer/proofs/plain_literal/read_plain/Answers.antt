use Rattle.std.proofs.Common.{IfSome, subst}
use Rattle.gv_tree.specs.Basics.{basic_tree}
use Rattle.gv_infer.specs.PrintedTexts.{IsPrintedFor}
use Rattle.gv_infer.proofs.PlainReading.{tree_read}
use Rattle.gv_infer.proofs.plain_literal.read_plain.Goals as goal

pub returns-in-Some : goal.returns-in-Some
returns-in-Some c =
    tree_read c.args.text.now (basic_tree c.in-Some.value) c.basic.result c.ok.result
    (subst (λ found. IfSome found (λ value. IsPrintedFor c.args.text.now (basic_tree value))) c.in-Some.is c.in_ok-value.ensures) c.basic.ensures.made c.basic.ensures.whole c.ok.ensures.value

use Rattle.gv_tree.proofs.BasicLaws.{whole_basic, kept_basic}
use Rattle.gv_tree.proofs.tree.Tree.basic.Goals as goal

pub invariant_of-result : goal.invariant_of-result
invariant_of-result c = kept_basic c.args.value c.in_ok-check.ensures

pub returns-clause-whole : goal.returns-clause-whole
returns-clause-whole c = whole_basic c.args.value c.in_ok-check.ensures

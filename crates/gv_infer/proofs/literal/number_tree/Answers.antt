use Rattle.std.proofs.Common.{subst}
use Rattle.gv_infer.specs.Building.{IsBuilt, IsOfType}
use Rattle.gv_infer.proofs.NumberLaws.{number_is, basic_class}
use Rattle.gv_infer.proofs.literal.number_tree.Goals as goal

pub returns-clause-built : goal.returns-clause-built
returns-clause-built c =
    let type = basic_class _ _ _ c.class.ensures c.in-Basic.is in
    let is = number_is _ c.args.negative c.args.magnitude _ c.in_ok-number_at-in-Basic.ensures in
    rw type (subst (λ v. IsBuilt v c.leaf.result) is.leaf c.leaf.ensures.built)

pub returns-clause-typed : goal.returns-clause-typed
returns-clause-typed c =
    let type = basic_class _ _ _ c.class.ensures c.in-Basic.is in
    let is = number_is _ c.args.negative c.args.magnitude _ c.in_ok-number_at-in-Basic.ensures in
    rw type (subst (λ t. IsOfType t c.leaf.result) is.typed c.leaf.ensures.typed)

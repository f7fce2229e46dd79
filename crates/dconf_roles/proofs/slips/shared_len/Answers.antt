use Rattle.std.proofs.Common.{arith, drop, length-drop}
use Rattle.std.specs.Prelude.{nat_eq}
use Rattle.std.proofs.lemmas.List.Sums.{common_prefix_len-le}
use Rattle.dconf_roles.proofs.slips.shared_len.Goals as goal

-- behind that nothing is left of one of them
pub returns : goal.returns
returns c =
    let few = common_prefix_len-le nat_eq (drop c.loop-at.at c.args.one.now) (drop c.loop-at.at c.args.other.now) in
    omega (arith, few.0, few.1, length-drop c.loop-at.at c.args.one.now, length-drop c.loop-at.at c.args.other.now, c.loop-at.invariant, c.loop-at-test.false, c.min-len.ensures)

use Rattle.std.proofs.Common.{arith}
use Rattle.dconf_turn.proofs.TurnLaws.{by_equal, was_set_aside, has_no_aside}
use Rattle.dconf_turn.specs.declared.step.Answer.TheVariants.{Yes}
use Rattle.dconf_turn.proofs.turn.Turn.set_aside.Goals as goal

pub returns-then-n-eq0 : goal.returns-then-n-eq0
returns-then-n-eq0 c = by_equal c.args.self _ _ (Yes c.args.n) c.to.ensures (was_set_aside c.args.self c.args.n c.requires c.if-n-eq0.true)

pub returns : goal.returns
returns c = by_equal c.args.self _ _ (Yes c.args.n) c.to-2.ensures (has_no_aside c.args.self c.args.n c.requires (omega arith))

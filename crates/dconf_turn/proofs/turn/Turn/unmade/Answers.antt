use Rattle.dconf_turn.proofs.TurnLaws.{by_equal, failed_making, nothing_made}
use Rattle.dconf_turn.specs.declared.step.Answer.TheVariants.{No}
use Rattle.dconf_turn.proofs.turn.Turn.unmade.Goals as goal

pub returns-then-fault-eq-NOTHING : goal.returns-then-fault-eq-NOTHING
returns-then-fault-eq-NOTHING c = by_equal c.args.self _ _ (No c.args.fault) c.says.ensures (nothing_made c.args.self c.args.fault c.requires)

pub returns : goal.returns
returns c = by_equal c.args.self _ _ (No c.args.fault) c.says-2.ensures (failed_making c.args.self c.args.fault c.requires c.if-fault-eq-NOTHING.false)

use Rattle.dconf_turn.proofs.TurnLaws.{by_equal, synced_renames, synced_sets_aside}
use Rattle.dconf_turn.specs.declared.step.Answer.TheVariants.{Yes}
use Rattle.dconf_turn.proofs.turn.Turn.synced.Goals as goal

pub returns-then-self : goal.returns-then-self
returns-then-self c = by_equal c.args.self _ _ (Yes c.args.n) c.to.ensures (synced_sets_aside c.args.self c.args.n c.requires c.if-self.true)

pub returns : goal.returns
returns c = by_equal c.args.self _ _ (Yes c.args.n) c.to-2.ensures (synced_renames c.args.self c.args.n c.requires c.if-self.false)

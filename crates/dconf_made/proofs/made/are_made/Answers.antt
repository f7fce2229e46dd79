use Rattle.std.proofs.Common.{arith, refl}
use Rattle.dconf_made.proofs.MadeLaws.{all_made, one_more}
use Rattle.dconf_made.proofs.made.are_made.Goals as goal

pub loop-at-preserved : goal.loop-at-preserved
loop-at-preserved c = one_more _ c.args.changes.now c.loop-at.at _ c.loop-at.invariant (c.in-Ok-true.ensures.made.0 c.in-Ok-true.field-0-test)

pub returns-clause-made : goal.returns-clause-made
returns-clause-made c = ((λ yes. all_made _ c.args.changes.now c.loop-at.at (omega (arith, c.loop-at-test.false)) c.loop-at.invariant), (λ all. refl))

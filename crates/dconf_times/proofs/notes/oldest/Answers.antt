use Rattle.std.proofs.Common.{arith}
use Rattle.dconf_times.proofs.PutLaws.{is_oldest}
use Rattle.dconf_times.proofs.notes.oldest.Goals as goal

pub returns-clause-some : goal.returns-clause-some
returns-clause-some c = is_oldest c.args.times.now c.loop-at.oldest c.loop-at.invariant.inside (λ k d inside. c.loop-at.invariant.least k d (omega (arith, inside, c.loop-at-test.false)))

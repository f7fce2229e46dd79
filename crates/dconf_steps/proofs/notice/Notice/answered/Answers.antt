use Rattle.std.proofs.Common.{refl}
use Rattle.dconf_steps.proofs.notice.Notice.answered.Goals as goal

pub returns-in-Watching : goal.returns-in-Watching
returns-in-Watching c = let e = c.in-Watching.is in record { goes = rw e refl; owed = rw e refl; whole = rw e refl; pause = rw e refl }

pub returns-in-Resting : goal.returns-in-Resting
returns-in-Resting c = let e = c.in-Resting.is in record { goes = rw e refl; owed = rw e refl; whole = rw e refl; pause = rw e refl }

use Rattle.std.proofs.Common.{◌≡◌, true, false}
use Rattle.gvdb_check.proofs.locks.points_to_locks.Goals as goal

pub returns-in-None : goal.returns-in-None
returns-in-None c = (
  λ h. let bad : false ≡ true = h in cc,
  λ locks. c.in-None.ensures.some.1 record { counted = c.requires.counted; of_kind = c.requires.of_kind; opens = locks.opens },
)

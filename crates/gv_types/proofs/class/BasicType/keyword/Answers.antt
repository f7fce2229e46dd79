use Rattle.std.proofs.Common.{refl}
use Rattle.gv_types.proofs.class.BasicType.keyword.Goals as goal

pub returns-in-Handle : goal.returns-in-Handle
returns-in-Handle c = rw c.in-Handle.is refl

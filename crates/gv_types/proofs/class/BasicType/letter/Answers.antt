use Rattle.std.proofs.Common.{refl}
use Rattle.gv_types.proofs.class.BasicType.letter.Goals as goal

pub returns-in-Uint32 : goal.returns-in-Uint32
returns-in-Uint32 c = rw c.in-Uint32.is refl

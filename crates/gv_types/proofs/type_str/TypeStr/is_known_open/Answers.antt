use Rattle.std.proofs.Common.{refl}
use Rattle.gv_types.proofs.type_str.TypeStr.is_known_open.Goals as goal

pub returns-clause-known : goal.returns-clause-known
returns-clause-known c = refl

pub returns-clause-open : goal.returns-clause-open
returns-clause-open c = λ known. c.args.self.«open» known

use Rattle.std.proofs.Common.{refl}
use Rattle.gv_types.proofs.type_str.TypeStr.as_open.Goals as goal

pub returns-clause-text : goal.returns-clause-text
returns-clause-text c = refl

pub returns-clause-known : goal.returns-clause-known
returns-clause-known c = refl

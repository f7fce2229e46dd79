use Rattle.std.proofs.Common.{rules}
use Rattle.gv_types.proofs.type_str.TypeStr.is_basic.Goals as goal

pub returns-in-Basic : goal.returns-in-Basic
returns-in-Basic c = search rules

pub returns-in_default : goal.returns-in_default
returns-in_default c = search rules

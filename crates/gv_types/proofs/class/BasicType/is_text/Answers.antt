use Rattle.std.proofs.Common.{rules}
use Rattle.gv_types.proofs.class.BasicType.is_text.Goals as goal

pub returns : goal.returns
returns c = search rules

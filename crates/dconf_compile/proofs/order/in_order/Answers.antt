use Rattle.std.proofs.Common.{rules}
use Rattle.dconf_compile.proofs.order.in_order.Goals as goal

pub returns : goal.returns
returns c = search rules

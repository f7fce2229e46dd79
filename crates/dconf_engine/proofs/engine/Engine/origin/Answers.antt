use Rattle.std.proofs.Common.{rules}
use Rattle.dconf_engine.proofs.engine.Engine.origin.Goals as goal

pub returns-in_err-i : goal.returns-in_err-i
returns-in_err-i c = search rules

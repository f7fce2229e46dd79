use Rattle.std.proofs.Common.{rules}
use Rattle.dconf_engine.proofs.engine.Engine.is_locked.Goals as goal

pub returns : goal.returns
returns c = search rules

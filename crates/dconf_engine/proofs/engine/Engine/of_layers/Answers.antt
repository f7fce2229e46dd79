use Rattle.std.proofs.Common.{rules}
use Rattle.dconf_engine.proofs.engine.Engine.of_layers.Goals as goal

pub returns : goal.returns
returns c = search rules

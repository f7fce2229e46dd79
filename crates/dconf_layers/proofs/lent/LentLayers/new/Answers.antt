use Rattle.std.proofs.Common.{rules}
use Rattle.dconf_layers.proofs.lent.LentLayers.new.Goals as goal

pub returns : goal.returns
returns c = search rules

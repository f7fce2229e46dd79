use Rattle.std.proofs.Common.{rules}
use Rattle.dconf_layers.proofs.lent.LentLayers.read.Goals as goal

pub returns-in_err-bytes-clause-value : goal.returns-in_err-bytes-clause-value
returns-in_err-bytes-clause-value c = search rules

use Rattle.std.proofs.Common.{sym}
use Rattle.std.proofs.lemmas.List.{take-map}
use Rattle.dconf_layers.specs.LayerSettings.{settings_of}
use Rattle.dconf_layers.proofs.lent.LentLayers.prefix.Goals as goal

pub returns : goal.returns
returns c = sym (take-map settings_of c.args.count c.args.self.layers.now)

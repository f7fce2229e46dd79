use Rattle.std.proofs.Common.{rules}
use Rattle.dconf_layers.specs.LayerSettings.{locks_of}
use Rattle.dconf_layers.proofs.EntryLaws.{nothing_in}
use Rattle.dconf_layers.proofs.SoundLayers.{found_in}
use Rattle.dconf_layers.proofs.layer.Layer.get.Goals as goal

pub returns-then-n_items-eq0 : goal.returns-then-n_items-eq0
returns-then-n_items-eq0 c = nothing_in c.args.self c.args.path.now (search rules)

pub returns : goal.returns
returns c =
    found_in c.args.self.values (locks_of c.args.self) c.args.path.now c.find_bytes.result c.args.self.sound c.find_bytes.ensures.found c.find_bytes.ensures.none

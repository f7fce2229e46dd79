use Rattle.std.proofs.Common.{sym, ap, subst, List}
use Rattle.dconf_model.specs.Databases.{AreLayers}
use Rattle.dconf_model.specs.Layers.{Layers}
use Rattle.dconf_model.specs.Settings.{Settings}
use Rattle.dconf_layers.specs.Verdicts.{bytes_of_files}
use Rattle.dconf_engine.proofs.engine.Engine.open.Goals as goal

pub returns-clause-layers : goal.returns-clause-layers
returns-clause-layers c =
    subst (λ (l : List Settings). AreLayers (bytes_of_files c.args.files.now) l) (ap (λ (l : Layers). l.layers) (sym c.of_opened.ensures))
    c.in_ok-layers.ensures.layers

use Rattle.std.proofs.Common.{◌∙◌, ap}
use Rattle.std.specs.FinMap.{keys}
use Rattle.dconf_model.specs.Settings.{Settings}
use Rattle.gvdb_maps.proofs.map.Map.locks.Goals as goal

pub of-requires : goal.of-requires
of-requires c = c.self.invariant.locked

pub returns : goal.returns
returns c = c.of.ensures ∙ ap (λ (s : Settings). keys s.locks) c.self.view_is

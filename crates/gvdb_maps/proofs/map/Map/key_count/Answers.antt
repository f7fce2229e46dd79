use Rattle.std.proofs.Common.{◌∙◌, ap, sym}
use Rattle.std.specs.FinMap.{len}
use Rattle.dconf_model.specs.Settings.{Settings}
use Rattle.gvdb_maps.proofs.Order.{len_values}
use Rattle.gvdb_maps.proofs.map.Map.key_count.Goals as goal

pub returns : goal.returns
returns c = c.len.ensures.len ∙ sym (len_values c.self.inside.values c.len.ensures.ordered) ∙ ap (λ (s : Settings). len s.values) c.self.view_is

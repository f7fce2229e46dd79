use Rattle.std.proofs.Common.{◌∙◌, ap, sym}
use Rattle.std.specs.FinMap.{len}
use Rattle.dconf_model.specs.Settings.{Settings}
use Rattle.gvdb_maps.proofs.Order.{len_locks}
use Rattle.gvdb_maps.proofs.map.Map.lock_count.Goals as goal

pub returns : goal.returns
returns c = c.len.ensures.len ∙ sym (len_locks c.self.inside.locks c.len.ensures.ordered) ∙ ap (λ (s : Settings). len s.locks) c.self.view_is

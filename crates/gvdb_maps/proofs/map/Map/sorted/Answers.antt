use Rattle.std.proofs.Common.{◌∙◌, List, ap, subst, sym}
use Rattle.dconf_model.specs.Settings.{IsSettings}
use Rattle.gvdb_maps.specs.Maps.{sorted_settings, Entry}
use Rattle.gvdb_maps.proofs.map.Map.sorted.Goals as goal

pub invariant_of-result : goal.invariant_of-result
invariant_of-result c = record {
  settings = subst IsSettings (sym (ap (λ (es : List Entry). sorted_settings es c.self.inside.locks) c.in_ok-entries.ensures.same)) c.self.invariant;
  rising = c.in_ok-entries.ensures.sorted;
}

pub returns : goal.returns
returns c = ap (λ (es : List Entry). sorted_settings es c.self.inside.locks) c.in_ok-entries.ensures.same ∙ c.self.view_is

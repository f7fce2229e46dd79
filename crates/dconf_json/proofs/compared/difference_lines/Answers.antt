use Rattle.std.proofs.Common.{◌∙◌, ap, codes, map, string_bytes, subst, sym}
use Rattle.dconf_model.specs.Order.{IsRising}
use Rattle.dconf_layers.specs.LayerSettings.{seen_in}
use Rattle.dconf_compared.proofs.SearchedLocks.{locks_rise}
use Rattle.dconf_json.proofs.compared.difference_lines.Goals as goal

pub lock_lines-requires : goal.lock_lines-requires
lock_lines-requires c =
    subst IsRising (sym (ap (map string_bytes) c.deref-3.ensures.value ∙ c.in_ok-before.ensures)) (locks_rise (seen_in c.args.first) (codes "/"))

pub lock_lines-requires-2 : goal.lock_lines-requires-2
lock_lines-requires-2 c =
    subst IsRising (sym (ap (map string_bytes) c.deref-5.ensures.value ∙ c.in_ok-after.ensures)) (locks_rise (seen_in c.args.second) (codes "/"))

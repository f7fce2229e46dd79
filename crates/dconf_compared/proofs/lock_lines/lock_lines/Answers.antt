use Rattle.std.proofs.Common.{◌∙◌, ap, codes, map, string_bytes, subst, sym}
use Rattle.dconf_model.specs.Order.{IsRising}
use Rattle.dconf_layers.specs.LayerSettings.{seen_in}
use Rattle.dconf_compared.proofs.SearchedLocks.{locks_rise}
use Rattle.dconf_compared.proofs.lock_lines.lock_lines.Goals as goal

pub lines_of-requires : goal.lines_of-requires
lines_of-requires c =
    subst IsRising (sym (ap (map string_bytes) c.deref-2.ensures.value ∙ c.in_ok-other_locks.ensures)) (locks_rise (seen_in c.args.others) (codes "/"))

use Rattle.std.proofs.Common.{◌≡◌}
use Rattle.dconf_model.specs.Plans.{keys_end}
use Rattle.gvdb_maps.specs.PlanWords.{entries_of}
use Rattle.gvdb_maps.proofs.layout.lay_keys.Given as goal

abbrev pub invariant-loop-named : goal.invariant-loop-named
invariant-loop-named l = l.cursor.at ≡ keys_end (entries_of l.items) l.fn.cursor.at l.named-index

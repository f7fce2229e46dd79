use Rattle.dconf_model.specs.Sound.Rule.{place}
use Rattle.gvdb_check.specs.NotedItems.{AreLong}
use Rattle.gvdb_format.specs.Tables.{region}
use Rattle.gvdb_check.specs.Unsounds.{KeptBefore}
use Rattle.gvdb_check.proofs.length.check_places.Given as goal

-- the items before this one keep the rule, and what is noted is so
abbrev pub invariant-loop-i : goal.invariant-loop-i
invariant-loop-i l = record {
  kept : KeptBefore (region l.fn.table) place l.i;
  noted : AreLong (region l.fn.table) l.noted;
}

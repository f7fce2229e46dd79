use Rattle.dconf_model.specs.Sound.Rule.{chain}
use Rattle.gvdb_check.specs.NotedItems.{DoEnd}
use Rattle.gvdb_format.specs.Tables.{region}
use Rattle.gvdb_check.specs.Unsounds.{KeptBefore}
use Rattle.gvdb_check.proofs.chain.check_chains.Given as goal

-- the items before this one keep the rule, and the parents of those that are noted end
abbrev pub invariant-loop-i : goal.invariant-loop-i
invariant-loop-i l = record {
  kept : KeptBefore (region l.fn.table) chain l.i;
  noted : DoEnd (region l.fn.table) l.noted;
}

use Rattle.std.proofs.Common.{ℕ, ◌<◌}
use Rattle.dconf_model.specs.Sound.{Keeps}
use Rattle.gvdb_format.specs.Tables.{region}
use Rattle.gvdb_check.specs.Unsounds.{rule_of}
use Rattle.gvdb_check.proofs.rules.each_keeps.Given as goal

-- each item before this one keeps the rule
abbrev pub invariant-loop-i : goal.invariant-loop-i
invariant-loop-i g l = (j : ℕ) → j < l.i → Keeps (region l.fn.table) (rule_of l.fn.rule) j

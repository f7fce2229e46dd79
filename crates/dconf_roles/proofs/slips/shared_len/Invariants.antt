use Rattle.std.proofs.Common.{◌≡◌, ◌+◌, drop}
use Rattle.std.specs.Prelude.{nat_eq}
use Rattle.std.specs.List.{common_prefix_len}
use Rattle.dconf_roles.proofs.slips.shared_len.Given as goal

-- up to there all are the same
abbrev pub invariant-loop-at : goal.invariant-loop-at
invariant-loop-at l = common_prefix_len nat_eq l.one l.other ≡ l.at + common_prefix_len nat_eq (drop l.at l.one) (drop l.at l.other)

use Rattle.std.proofs.Common.{◌≡◌, ◌+◌, ◌*◌, ◌≤◌, length, take, drop}
use Rattle.gv_patterns.specs.Forms.{bare_of, patterns_of}
use Rattle.gv_patterns.specs.Parts.{parts, bare_parts, all_parts}
use Rattle.gv_patterns.specs.Orders.{each_by}
use Rattle.gv_patterns.proofs.PatternLists.{before}
use Rattle.gv_patterns.proofs.pattern.+common.Given as goal

abbrev pub decreases-Pattern::common : goal.decreases-Pattern::common
decreases-Pattern::common l = 3 * (parts l.self + parts l.other)

abbrev pub decreases-maybe_common : goal.decreases-maybe_common
decreases-maybe_common l = 3 * (parts l.p.value + parts l.other) + 2

abbrev pub decreases-strict_common : goal.decreases-strict_common
decreases-strict_common l = 3 * (bare_parts (bare_of l.c) + parts l.other) + 2

abbrev pub decreases-loose_common : goal.decreases-loose_common
decreases-loose_common l = 3 * (bare_parts (bare_of l.c) + parts l.other) + 2

abbrev pub decreases-common_boxed : goal.decreases-common_boxed
decreases-common_boxed l = 3 * (parts l.kept.value + parts l.other) + 1

abbrev pub decreases-common_bare : goal.decreases-common_bare
decreases-common_bare l = 3 * (bare_parts (bare_of l.c) + bare_parts (bare_of l.d)) + 1

abbrev pub decreases-common_each : goal.decreases-common_each
decreases-common_each l = 3 * (all_parts (patterns_of l.ps.items) + all_parts (patterns_of l.qs.items)) + 2

abbrev pub decreases-common_listed : goal.decreases-common_listed
decreases-common_listed l = 3 * (all_parts (patterns_of l.kept.items) + all_parts (patterns_of l.others.items)) + 1

abbrev pub invariant-common_listed-loop-other : goal.invariant-common_listed-loop-other
invariant-common_listed-loop-other l = record {
  next : (goal.iterator-common_listed-loop-other).can_next l.other-iterator;
  finite : (goal.iterator-common_listed-loop-other).is_finite l.other-iterator;
  room : l.shared + length l.other-iterator.rest.items ≤ length l.kept.items;
  small : all_parts (patterns_of (drop l.shared l.kept.items)) + all_parts (patterns_of l.other-iterator.rest.items) ≤ all_parts (patterns_of l.fn.kept.items) + all_parts (patterns_of l.fn.others.items);
  joined : before (take l.shared l.kept.items) (each_by l.in_order (patterns_of (drop l.shared l.kept.items)) (patterns_of l.other-iterator.rest.items)) ≡ each_by l.in_order (patterns_of l.fn.kept.items) (patterns_of l.fn.others.items);
}

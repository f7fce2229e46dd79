use Rattle.std.proofs.Common.{◌≡◌, ◌+◌, ◌*◌, ◌-◌, drop, length, max}
use Rattle.gv_model.specs.Syntax.{levels, greatest_levels, pairs_levels}
use Rattle.gv_model.specs.Patterns.{all_common, patterns, common_key, common_value}
use Rattle.gv_syntax.specs.SyntaxNodes.{nodes_of, pairs_of}
use Rattle.gv_patterns.proofs.PatternLists.{before}
use Rattle.gv_patterns.proofs.admitted.+admitted.Given as goal

abbrev pub decreases-pattern_of : goal.decreases-pattern_of
decreases-pattern_of l = 4 * levels l.node.now

abbrev pub decreases-entry_of : goal.decreases-entry_of
decreases-entry_of l = 4 * max (levels l.key.now) (levels l.value.now) + 1

abbrev pub decreases-common_with : goal.decreases-common_with
decreases-common_with l = 4 * levels l.node.now + 1

abbrev pub decreases-all_common : goal.decreases-all_common
decreases-all_common l = 4 * greatest_levels (nodes_of l.nodes.now) + 2

abbrev pub decreases-patterns : goal.decreases-patterns
decreases-patterns l = 4 * greatest_levels (nodes_of l.nodes.now) + 1

abbrev pub decreases-common_entry : goal.decreases-common_entry
decreases-common_entry l = 4 * pairs_levels (pairs_of l.pairs.now) + 3

abbrev pub decreases-common_key : goal.decreases-common_key
decreases-common_key l = 4 * pairs_levels (pairs_of l.pairs.now) + 2

abbrev pub decreases-common_value : goal.decreases-common_value
decreases-common_value l = 4 * pairs_levels (pairs_of l.pairs.now) + 2

abbrev pub invariant-all_common-loop-done : goal.invariant-all_common-loop-done
invariant-all_common-loop-done l = l.all ≡ all_common (nodes_of (drop (length l.fn.nodes - l.done) l.fn.nodes))

abbrev pub invariant-patterns-loop-node : goal.invariant-patterns-loop-node
invariant-patterns-loop-node l = before l.all.items (patterns (nodes_of (drop l.node-index l.nodes))) ≡ patterns (nodes_of l.nodes)

abbrev pub invariant-common_key-loop-done : goal.invariant-common_key-loop-done
invariant-common_key-loop-done l = l.all ≡ common_key (pairs_of (drop (length l.fn.pairs - l.done) l.fn.pairs))

abbrev pub invariant-common_value-loop-done : goal.invariant-common_value-loop-done
invariant-common_value-loop-done l = l.all ≡ common_value (pairs_of (drop (length l.fn.pairs - l.done) l.fn.pairs))

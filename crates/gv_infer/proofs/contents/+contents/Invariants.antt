use Rattle.std.proofs.Common.{◌≡◌, ◌+◌, ◌*◌, ◌≤◌, drop}
use Rattle.gv_model.specs.Syntax.{levels, greatest_levels, pairs_levels}
use Rattle.gv_model.specs.Chosen.{Choice}
use Rattle.gv_model.specs.LeastTypes.{choice}
use Rattle.gv_model.specs.TextValues.{first_choice, all_contents, pairs_contents}
use Rattle.gv_syntax.specs.SyntaxNodes.{nodes_of, pairs_of}
use Rattle.gv_model.specs.Grammar.{syntaxes_bytes, pairs_bytes}
use Rattle.gv_infer.proofs.contents.+contents.Given as goal

abbrev pub decreases-check_contents : goal.decreases-check_contents
decreases-check_contents l = 2 * levels l.node.now

abbrev pub decreases-check_each : goal.decreases-check_each
decreases-check_each l = 2 * greatest_levels (nodes_of l.nodes.now) + 1

abbrev pub decreases-check_pairs : goal.decreases-check_pairs
decreases-check_pairs l = 2 * pairs_levels (pairs_of l.pairs.now) + 1

abbrev pub invariant-check_each-loop-node : goal.invariant-check_each-loop-node
invariant-check_each-loop-node l = record {
  typed : (last : Choice) → first_choice choice (all_contents (nodes_of l.nodes)) last ≡ first_choice choice (all_contents (nodes_of (drop l.node-index l.nodes))) last;
  bytes : syntaxes_bytes (nodes_of (drop l.node-index l.nodes)) ≤ syntaxes_bytes (nodes_of l.nodes);
  levels : greatest_levels (nodes_of (drop l.node-index l.nodes)) ≤ greatest_levels (nodes_of l.nodes);
}

abbrev pub invariant-check_pairs-loop-key : goal.invariant-check_pairs-loop-key
invariant-check_pairs-loop-key l = record {
  typed : (last : Choice) → first_choice choice (pairs_contents (pairs_of l.pairs)) last ≡ first_choice choice (pairs_contents (pairs_of (drop l.key-index l.pairs))) last;
  bytes : pairs_bytes (pairs_of (drop l.key-index l.pairs)) ≤ pairs_bytes (pairs_of l.pairs);
  levels : pairs_levels (pairs_of (drop l.key-index l.pairs)) ≤ pairs_levels (pairs_of l.pairs);
}

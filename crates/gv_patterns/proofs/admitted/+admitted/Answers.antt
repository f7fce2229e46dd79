use Rattle.std.proofs.Common.{arith, ◌∙◌, ap, sym}
use Rattle.std.proofs.lemmas.List.{drop_all}
use Rattle.gv_model.specs.Patterns.{patterns, pattern}
use Rattle.gv_model.proofs.ListLaws.{drop_item}
use Rattle.gv_syntax.specs.SyntaxNodes.{nodes_of}
use Rattle.gv_patterns.proofs.PatternLists.{before}
use Rattle.gv_patterns.proofs.ExactLaws.{before_more, before_stop}
use Rattle.gv_patterns.proofs.Levels.{levels_at, pair_levels_at}
use Rattle.gv_patterns.proofs.admitted.+admitted.Goals as goal

pub all_common-common_with-requires : goal.all_common-common_with-requires
all_common-common_with-requires t c = (omega (arith, levels_at c.args.nodes.now _ c.index-nodes-nodes.result (omega (arith, c.loop-done-test.true)) c.index-nodes-nodes.is), tt)

pub common_key-common_with-requires : goal.common_key-common_with-requires
common_key-common_with-requires t c = (omega (arith, (pair_levels_at c.args.pairs.now _ c.index-pairs-pairs.result (omega (arith, c.loop-done-test.true)) c.index-pairs-pairs.is).0), tt)

pub common_value-common_with-requires : goal.common_value-common_with-requires
common_value-common_with-requires t c = (omega (arith, (pair_levels_at c.args.pairs.now _ c.index-pairs-pairs.result (omega (arith, c.loop-done-test.true)) c.index-pairs-pairs.is).1), tt)

pub patterns-pattern_of-requires : goal.patterns-pattern_of-requires
patterns-pattern_of-requires t c = (omega (arith, levels_at c.args.nodes.now c.loop-node.node-index c.node-item.result c.loop-node-test.true c.node-item.is), tt)

pub patterns-loop-node-preserved : goal.patterns-loop-node-preserved
unfolding pattern
patterns-loop-node-preserved t c =
    let here = drop_item c.args.nodes.now c.loop-node.node-index c.node-item.result c.loop-node-test.true c.node-item.is in
    rw c.in_ok-push.ensures.items (rw c.in_ok-pattern_of.ensures (before_more c.loop-node.all.items _ _ ∙ ap (λ l. before c.loop-node.all.items (patterns (nodes_of l))) (sym here) ∙ c.loop-node.invariant))

pub patterns-returns : goal.patterns-returns
unfolding pattern
patterns-returns t c =
    let all = drop_all c.loop-node.node-index c.args.nodes.now c.loop-node-test.false in
    sym (before_stop c.loop-node.all.items) ∙ ap (λ l. before c.loop-node.all.items (patterns (nodes_of l))) (sym all) ∙ c.loop-node.invariant

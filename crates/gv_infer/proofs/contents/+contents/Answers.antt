use Rattle.std.proofs.Common.{ap, sym, arith, ◌∙◌, refl}
use Rattle.gv_model.specs.Syntax.{levels, greatest_levels, pairs_levels}
use Rattle.gv_model.proofs.ListLaws.{drop_item}
use Rattle.gv_syntax.specs.SyntaxNodes.{syntax_of, nodes_of, pairs_of}
use Rattle.gv_model.specs.Grammar.{syntaxes_bytes, pairs_bytes}
use Rattle.gv_infer.proofs.ContentLaws.{stops_in_key, stops_in_value, stops_inside, stops_itself, stops_at, left_after, next_node, next_pair}
use Rattle.gv_infer.proofs.contents.+contents.Goals as goal

pub check_contents-returns-in_err-check_contents-in-Entry-clause-fault : goal.check_contents-returns-in_err-check_contents-in-Entry-clause-fault
check_contents-returns-in_err-check_contents-in-Entry-clause-fault t c =
    let whole = sym c.node.view_is ∙ ap syntax_of c.in-Entry.is in
    stops_in_key c.from_residual.result _ _ _ c.in_err-check_contents-in-Entry.field-0.0 whole (rw c.deref.ensures at c.in_err-check_contents-in-Entry.ensures.fault) c.from_residual.ensures.1

pub check_contents-returns-in_err-check_contents-in-Variant-clause-fault : goal.check_contents-returns-in_err-check_contents-in-Variant-clause-fault
check_contents-returns-in_err-check_contents-in-Variant-clause-fault t c =
    let whole = sym c.node.view_is ∙ ap syntax_of c.in-Variant.is in
    stops_inside c.from_residual-in_err-check_contents-in-Variant.result _ _ c.in_err-check_contents-in-Variant.field-0.0 whole (rw c.deref-in-Variant.ensures at c.in_err-check_contents-in-Variant.ensures.fault) c.from_residual-in_err-check_contents-in-Variant.ensures.1

pub check_contents-returns-in_err-type_of_node-in-Variant-clause-fault : goal.check_contents-returns-in_err-type_of_node-in-Variant-clause-fault
check_contents-returns-in_err-type_of_node-in-Variant-clause-fault t c =
    let whole = sym c.node.view_is ∙ ap syntax_of c.in-Variant.is in
    stops_itself c.from_residual-in_err-type_of_node-in-Variant.result _ _ c.in_err-type_of_node-in-Variant.field-0.0 whole
    (rw c.deref-in-Variant.ensures at c.in_ok-check_contents-in-Variant.ensures.typed)
    (rw c.deref-in-Variant-2.ensures at c.in_err-type_of_node-in-Variant.ensures.fault) c.from_residual-in_err-type_of_node-in-Variant.ensures.1

pub check_contents-returns-in_ok-check_contents-in-Entry-clause-fault : goal.check_contents-returns-in_ok-check_contents-in-Entry-clause-fault
check_contents-returns-in_ok-check_contents-in-Entry-clause-fault t c =
    let whole = sym c.node.view_is ∙ ap syntax_of c.in-Entry.is in
    stops_in_value c.check_contents-in-Entry.result _ _ _ whole (rw c.deref.ensures at c.in_ok-check_contents-in-Entry.ensures.typed) (rw c.deref-in-Entry.ensures at c.check_contents-in-Entry.ensures.fault)

pub check_each-returns-in_err-check_contents-clause-fault : goal.check_each-returns-in_err-check_contents-clause-fault
check_each-returns-in_err-check_contents-clause-fault t c =
    let next = next_node c.args.nodes.now c.loop-node.node-index c.node-item.result c.loop-node-test.true c.node-item.is in
    stops_at c.from_residual.result _ _ _ _ c.in_err-check_contents.field-0.0 next c.loop-node.invariant.typed c.in_err-check_contents.ensures.fault c.from_residual.ensures.1

pub check_each-loop-node-preserved : goal.check_each-loop-node-preserved
unfolding levels
check_each-loop-node-preserved t c =
    let next = next_node c.args.nodes.now c.loop-node.node-index c.node-item.result c.loop-node-test.true c.node-item.is in
    let here = drop_item c.args.nodes.now c.loop-node.node-index c.node-item.result c.loop-node-test.true c.node-item.is in
    record {
      typed = left_after _ _ _ _ next c.loop-node.invariant.typed c.in_ok-check_contents.ensures.typed;
      bytes = omega (arith, ap (λ l. syntaxes_bytes (nodes_of l)) here, c.loop-node.invariant.bytes);
      levels = omega (arith, ap (λ l. greatest_levels (nodes_of l)) here, c.loop-node.invariant.levels);
    }

pub check_pairs-returns-in_err-check_contents-clause-fault : goal.check_pairs-returns-in_err-check_contents-clause-fault
check_pairs-returns-in_err-check_contents-clause-fault t c =
    let next = next_pair c.args.pairs.now c.loop-key.key-index c.loop-key-item.result c.loop-key-test.true c.loop-key-item.is in
    stops_at c.from_residual.result _ _ _ _ c.in_err-check_contents.field-0.0 next c.loop-key.invariant.typed c.in_err-check_contents.ensures.fault c.from_residual.ensures.1

pub check_pairs-returns-in_err-check_contents-2-clause-fault : goal.check_pairs-returns-in_err-check_contents-2-clause-fault
check_pairs-returns-in_err-check_contents-2-clause-fault t c =
    let next = next_pair c.args.pairs.now c.loop-key.key-index c.loop-key-item.result c.loop-key-test.true c.loop-key-item.is in
    let value = left_after _ _ _ _ next c.loop-key.invariant.typed c.in_ok-check_contents.ensures.typed in
    stops_at c.from_residual-in_err-check_contents-2.result _ _ _ _ c.in_err-check_contents-2.field-0.0 refl value c.in_err-check_contents-2.ensures.fault c.from_residual-in_err-check_contents-2.ensures.1

pub check_pairs-loop-key-preserved : goal.check_pairs-loop-key-preserved
unfolding levels
check_pairs-loop-key-preserved t c =
    let next = next_pair c.args.pairs.now c.loop-key.key-index c.loop-key-item.result c.loop-key-test.true c.loop-key-item.is in
    let here = drop_item c.args.pairs.now c.loop-key.key-index c.loop-key-item.result c.loop-key-test.true c.loop-key-item.is in
    let value = left_after _ _ _ _ next c.loop-key.invariant.typed c.in_ok-check_contents.ensures.typed in
    record {
      typed = left_after _ _ _ _ refl value c.in_ok-check_contents-2.ensures.typed;
      bytes = omega (arith, ap (λ l. pairs_bytes (pairs_of l)) here, c.loop-key.invariant.bytes);
      levels = omega (arith, ap (λ l. pairs_levels (pairs_of l)) here, c.loop-key.invariant.levels);
    }

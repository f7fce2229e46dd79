use Rattle.std.proofs.Common.{arith, ◌≡◌, ◌⊎◌, ℕ, suc, ◌-◌, length, drop, inr, subst}
use Rattle.gv_model.specs.Patterns.{all_common}
use Rattle.gv_model.specs.Patterns.Pattern.{loose}
use Rattle.gv_model.specs.Patterns.Bare.{basics}
use Rattle.gv_model.specs.Patterns.BasicSet.{texts}
use Rattle.gv_syntax.specs.SyntaxNodes.{nodes_of}
use Rattle.gv_infer.proofs.PlainTypes.{before_all}
use Rattle.gv_infer.proofs.plain.are_strings.Goals as goal

pub loop-len-preserved : goal.loop-len-preserved
loop-len-preserved c =
    let nodes = c.args.nodes.now in
    let len : ℕ = c.loop-len.len in
    let same : len ≡ suc (len - 1) = omega (arith, c.loop-len-test.true) in (
      omega (arith, c.loop-len.invariant.0),
      inr (before_all nodes (len - 1) c.index-nodes-len.result (omega (arith, c.loop-len-test.true, c.loop-len.invariant.0)) c.index-nodes-len.is
          (c.is_string.ensures c.if-not-is_string.false)
          (subst (λ n. (n ≡ length nodes) ⊎ (all_common (nodes_of (drop n nodes)) ≡ loose (basics texts))) same c.loop-len.invariant.1)),
    )

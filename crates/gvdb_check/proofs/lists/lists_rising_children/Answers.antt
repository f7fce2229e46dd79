use Rattle.std.proofs.Common.{◌+◌, ◌<◌, ◌≡◌, ◌∙◌, ℕ, [], arith, subst}
use Rattle.dconf_model.specs.Sound.{IsChild, listed}
use Rattle.gvdb_format.specs.Tables.{region}
use Rattle.gvdb_check.proofs.Below.{below_next}
use Rattle.gvdb_check.proofs.ListNumbers.{once_where_rising}
use Rattle.gvdb_check.proofs.lists.lists_rising_children.Goals as goal

pub loop-bytes-preserved : goal.loop-bytes-preserved
loop-bytes-preserved c =
    let t = region c.args.table in
    let i = c.args.i in
    let n = c.loop-bytes.bytes-index in
    let before = c.loop-bytes.invariant in
    let is : c.number-child.result ≡ listed t i n = c.number-child.ensures ∙ c.numbers-bytes-items.ensures.each n [] c.loop-bytes-test.true in
    let child : IsChild t i (listed t i n) = subst (IsChild t i) is (c.is_child.ensures.0 c.if-not-is_child.false) in
    record {
      alone = below_next (λ k. IsChild t i (listed t i k)) n before.alone child;
      rising = below_next (λ m. (k : ℕ) → k < m → listed t i k < listed t i m) n before.rising
          (λ k lt. omega (arith, before.below k lt, is, c.if-child-least.false));
      below = below_next (λ k. listed t i k < c.number-child.result + 1) n
          (λ k lt. omega (arith, before.below k lt, c.if-child-least.false)) (omega (arith, is));
    }

pub returns-clause-once : goal.returns-clause-once
returns-clause-once c = λ _. once_where_rising (region c.args.table) c.args.i c.loop-bytes.bytes-index
    (omega (arith, c.loop-bytes-test.false, c.numbers-bytes-items.ensures.len)) c.loop-bytes.invariant.rising

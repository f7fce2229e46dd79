use Rattle.std.proofs.Common.{◌≡◌, ◌<◌, ◌≤◌, ◌⊎◌, arith, rules}
use Rattle.gvdb_read.specs.Tables.{region}
use Rattle.gvdb_check.proofs.Below.{below_next}
use Rattle.gvdb_alike.specs.NamesAlike.{AreStepsAlike}
use Rattle.gvdb_alike.specs.ValuesAlike.{value_at}
use Rattle.gvdb_alike.proofs.items.items_of.Goals as goal

pub loop-i-preserved-then-has_like_value_at : goal.loop-i-preserved-then-has_like_value_at
loop-i-preserved-then-has_like_value_at c =
    let t = region c.args.patch.table in
    let u = region c.args.patch.other in
    let counted = c.loop-i.invariant.counted in
    record {
      steps = below_next (AreStepsAlike t u) c.loop-i.i c.loop-i.invariant.steps (c.has_like_step.ensures (search rules));
      alike = below_next (λ k. (k < c.loop-i.first) ⊎ (c.loop-i.end ≤ k) → value_at t k ≡ value_at u k) c.loop-i.i c.loop-i.invariant.alike (λ _. c.has_like_value_at.ensures c.if-has_like_value_at.true);
      counted = omega (arith, counted);
    }

use Rattle.std.proofs.Common.{◌+◌, refl, arith}
use Rattle.std.specs.Prelude.{◌/◌, ◌%◌}
use Rattle.std.proofs.Math.Nat.{mod-lt}
use Rattle.dconf_model.specs.Sound.{list_length, listed}
use Rattle.gvdb_check.specs.Counted.{IsOnceInPart}
use Rattle.gvdb_format.specs.Tables.{region}
use Rattle.gvdb_check.proofs.Below.{below_next}
use Rattle.gvdb_check.proofs.ListWalks.{all_once}
use Rattle.gvdb_check.proofs.lists_flagged.is_once_by_flags.Goals as goal

pub loop-part-preserved : goal.loop-part-preserved
loop-part-preserved c = below_next (λ p. IsOnceInPart (region c.args.table) c.args.i p _) c.loop-part.part c.loop-part.invariant (c.is_once_in_part.ensures c.if-not-is_once_in_part.false)

pub returns : goal.returns
returns c =
    let t = region c.args.table in
    let i = c.args.i in
    let parts = c.n_items.result / 32768 + 1 in
    λ _. all_once t i (list_length t i) (omega arith) (λ m k lt below.
    c.loop-part.invariant (listed t i m % parts) (omega (arith, mod-lt (listed t i m) {m = parts} (omega arith), c.loop-part-test.false)) m lt refl k below)

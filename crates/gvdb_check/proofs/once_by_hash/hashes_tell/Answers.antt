use Rattle.std.proofs.Common.{◌+◌, refl, arith}
use Rattle.std.specs.Prelude.{◌/◌, ◌%◌}
use Rattle.std.proofs.Math.Nat.{mod-lt}
use Rattle.dconf_model.specs.Table.{item}
use Rattle.gvdb_check.specs.OnePass.{OnlyNamedInPart}
use Rattle.gvdb_format.specs.Tables.{region}
use Rattle.gvdb_check.proofs.Below.{below_next}
use Rattle.gvdb_check.proofs.once_by_hash.hashes_tell.Goals as goal

pub loop-part-preserved : goal.loop-part-preserved
loop-part-preserved c = below_next (λ p. OnlyNamedInPart (region c.args.table) p _) c.loop-part.part c.loop-part.invariant (c.part_is_once.ensures c.if-not-part_is_once.false)

pub returns : goal.returns
returns c =
    let t = region c.args.table in
    let parts = c.n_items-2.result / 2048 + 1 in
    λ _ i counted. c.loop-part.invariant ((item t i).hash % parts) (omega (arith, mod-lt (item t i).hash {m = parts} (omega arith), c.loop-part-test.false)) i counted refl

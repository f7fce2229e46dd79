use Rattle.std.proofs.Common.{◌<◌, arith}
use Rattle.dconf_model.proofs.NameSteps.{is_item}
use Rattle.gvdb_read.specs.Tables.{region}
use Rattle.gvdb_write.proofs.salvaged.lowest_locks.Goals as goal

pub returns-clause-none : goal.returns-clause-none
returns-clause-none c = λ i h.
    let counted = (is_item (region c.args.root) i _ h.named).counted in
    let lt : i < c.loop-i.i = omega (arith, counted, c.loop-i-test.false, c.n_items-i-end.ensures) in
    c.loop-i.invariant i lt h

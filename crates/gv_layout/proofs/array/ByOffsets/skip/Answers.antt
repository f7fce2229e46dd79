use Rattle.std.proofs.Common.{drop, ap, sym, ◌∙◌, arith}
use Rattle.gv_layout.specs.Places.{child_of, by_offsets_left}
use Rattle.gv_layout.proofs.Lists.{drop_next, drop_past}
use Rattle.gv_layout.proofs.array.ByOffsets.skip.Goals as goal

pub loop-preserved : goal.loop-preserved
loop-preserved c =
    drop_next (by_offsets_left c.args.self) (by_offsets_left c.in-Some.after) (child_of c.in-Some.field-0-0) c.loop.counter (sym c.loop.invariant ∙ c.in-Some.ensures)

pub returns-in-None : goal.returns-in-None
returns-in-None c =
    c.in-None.ensures ∙ drop_past (by_offsets_left c.args.self) c.loop.counter c.args.i (sym c.loop.invariant ∙ c.in-None.ensures) (omega arith)

pub returns : goal.returns
returns c = c.loop.invariant ∙ ap (λ k. drop k (by_offsets_left c.args.self)) (omega arith)

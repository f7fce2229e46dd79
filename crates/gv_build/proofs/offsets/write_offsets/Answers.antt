use Rattle.std.proofs.Common.{arith, ◌+◌, ◌≤◌, length}
use Rattle.gv_model.specs.Encode.{number_bytes}
use Rattle.gv_build.specs.Writing.{offsets_of}
use Rattle.gv_build.proofs.Outcomes.{stops_over}
use Rattle.gv_build.proofs.OffsetLaws.{offsets_long, offset_fits, offset_part}
use Rattle.gv_build.proofs.offsets.write_offsets.Goals as goal

pub returns-then-ends-len-clause-fault : goal.returns-then-ends-len-clause-fault
returns-then-ends-len-clause-fault c = let long = offsets_long c.args.body c.args.ends.now in omega arith

pub push_number-requires-clause-number : goal.push_number-requires-clause-number
push_number-requires-clause-number c =
    let l = c.loop-end in
    offset_fits _ c.args.body _ l.end-index _ c.args.ends.now (omega arith) l.invariant.within c.loop-end-test.true c.from.ensures c.least_width-width.ensures.width

pub returns-in_err-push_number-clause-fault : goal.returns-in_err-push_number-clause-fault
returns-in_err-push_number-clause-fault c =
    let l = c.loop-end in
    let w = c.least_width-width.result in
    let part = offset_part (number_bytes w) l.out.items c.args.out.now.items c.args.ends.now l.end-index c.from.result c.loop-end-test.true c.from.ensures l.invariant.wrote in
    let whole : length l.out.items + length (number_bytes w c.from.result) ≤ length c.args.out.now.items + length (offsets_of c.args.body c.args.ends.now) = rw (← c.least_width-width.ensures.width) part in
    stops_over c.from_residual.result _ _ _ whole c.in_err-push_number.ensures.fault c.from_residual.ensures.1

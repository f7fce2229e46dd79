use Rattle.std.proofs.Common.{sym}
use Rattle.gv_model.specs.Decode.{cut}
use Rattle.gv_types.specs.TypeStr.{ty}
use Rattle.gv_layout.specs.Places.{child_of, walk_left}
use Rattle.gv_layout.proofs.WalkSteps.{none_at, some_at}
use Rattle.gv_layout.proofs.bounds.place_of.Goals as goal

pub returns-in_err-place : goal.returns-in_err-place
returns-in_err-place c =
    rw c.from_residual.ensures (sym (none_at (cut (ty c.args.of) c.args.bytes.now) c.args.i (walk_left c.skip.result) (walk_left c.new.result) c.new.ensures c.skip.ensures c.in_err-place.ensures))

pub returns : goal.returns
returns c =
    sym (some_at (cut (ty c.args.of) c.args.bytes.now) c.args.i (walk_left c.skip.result) (walk_left c.new.result) (child_of c.in_ok-place.place) (walk_left c.in_ok-place.field-0-1) c.new.ensures c.skip.ensures c.in_ok-place.ensures)

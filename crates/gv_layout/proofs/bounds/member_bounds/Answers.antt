use Rattle.gv_model.specs.Decode.{cut}
use Rattle.gv_types.specs.TypeStr.{ty}
use Rattle.gv_layout.specs.Places.{child_of, walk_left}
use Rattle.gv_layout.proofs.WalkSteps.{found_below, some_at, child_inside, bounds_at}
use Rattle.gv_layout.proofs.bounds.member_bounds.Goals as goal

pub unwrap-requires : goal.unwrap-requires
unwrap-requires c =
    found_below (λ r. child_of r.0) (λ r. walk_left r.1) c.split_first.result (cut (ty c.args.of) c.args.bytes.now) c.args.i (walk_left c.skip.result) (walk_left c.new.result)
    c.new.ensures c.skip.ensures c.requires.child c.split_first.ensures

pub returns-clause-within : goal.returns-clause-within
returns-clause-within c =
    child_inside (ty c.args.of) c.args.bytes.now c.args.i (child_of c.unwrap.result.0)
    (some_at (cut (ty c.args.of) c.args.bytes.now) c.args.i (walk_left c.skip.result) (walk_left c.new.result) (child_of c.unwrap.result.0) (walk_left c.unwrap.result.1)
    c.new.ensures c.skip.ensures (rw c.unwrap.ensures at c.split_first.ensures))

pub returns-clause-bounds : goal.returns-clause-bounds
returns-clause-bounds c =
    bounds_at (ty c.args.of) c.args.bytes.now c.args.i (child_of c.unwrap.result.0)
    (some_at (cut (ty c.args.of) c.args.bytes.now) c.args.i (walk_left c.skip.result) (walk_left c.new.result) (child_of c.unwrap.result.0) (walk_left c.unwrap.result.1)
    c.new.ensures c.skip.ensures (rw c.unwrap.ensures at c.split_first.ensures))

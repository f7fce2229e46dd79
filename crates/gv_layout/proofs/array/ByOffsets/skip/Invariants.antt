use Rattle.std.proofs.Common.{◌≡◌, drop}
use Rattle.gv_layout.specs.Places.{by_offsets_left}
use Rattle.gv_layout.proofs.array.ByOffsets.skip.Given as goal

abbrev pub invariant-loop : goal.invariant-loop
invariant-loop l = by_offsets_left l.left ≡ drop l.counter (by_offsets_left l.self)

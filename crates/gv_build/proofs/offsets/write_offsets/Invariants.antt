use Rattle.std.proofs.Common.{drop}
use Rattle.gv_build.proofs.Steps.{OffsetsSoFar}
use Rattle.gv_build.proofs.offsets.write_offsets.Given as goal

abbrev pub invariant-loop-end : goal.invariant-loop-end
invariant-loop-end l = OffsetsSoFar l.width l.body l.initial.out.items l.out.items l.ends (drop l.end-index l.ends)

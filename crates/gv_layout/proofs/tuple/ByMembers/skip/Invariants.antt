use Rattle.std.proofs.Common.{◌≡◌, drop}
use Rattle.gv_layout.specs.Places.{by_members_left}
use Rattle.gv_layout.proofs.tuple.ByMembers.skip.Given as goal

abbrev pub invariant-loop : goal.invariant-loop
invariant-loop l = by_members_left l.left ≡ drop l.counter (by_members_left l.self)

use Rattle.std.proofs.Common.{◌≡◌, ◌≤◌, ◌-◌, length}
use Rattle.dconf_streams.proofs.InputLaws.{HasReadSome}
use Rattle.dconf_streams.proofs.input.read_input.Given as goal

abbrev pub invariant-loop-piece : goal.invariant-loop-piece
invariant-loop-piece g l =
    (l.input.failures ≡ l.fn.input.failures)
    × HasReadSome g.I.Read.remaining l.fn.input l.input l.bytes.items
    × (length l.bytes.items ≤ 16777217)

abbrev pub decreases-loop-piece : goal.decreases-loop-piece
decreases-loop-piece g l = 16777217 - length l.bytes.items

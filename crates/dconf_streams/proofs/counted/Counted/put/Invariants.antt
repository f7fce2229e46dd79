use Rattle.std.proofs.Common.{◌≡◌, [], length}
use Rattle.dconf_streams.proofs.Puts.{HasPut}
use Rattle.dconf_streams.proofs.counted.Counted.put.Given as goal

abbrev pub invariant-loop-rest : goal.invariant-loop-rest
invariant-loop-rest g l =
    (l.self.failures ≡ l.fn.self.failures)
    × HasPut g.W.Write.contents l.fn.self l.self l.bytes l.rest
    × (l.bytes ≡ [] → l.self ≡ l.fn.self)

abbrev pub decreases-loop-rest : goal.decreases-loop-rest
decreases-loop-rest g l = length l.rest

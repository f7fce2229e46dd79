use Rattle.std.proofs.Common.{◌≡◌, map, drop}
use Rattle.dconf_times.specs.Leaving.{has_seen}
use Rattle.dconf_times.specs.Seeing.{seen_of}
use Rattle.dconf_times.proofs.leaving.DconfdbAsked.has_seen.Given as goal

-- the rest decides
abbrev pub invariant-loop-one : goal.invariant-loop-one
invariant-loop-one l = has_seen (map seen_of (drop l.one-index l.seen)) l.self ≡ has_seen (map seen_of l.seen) l.self

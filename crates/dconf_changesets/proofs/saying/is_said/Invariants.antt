use Rattle.std.proofs.Common.{◌≡◌, drop}
use Rattle.dconf_changesets.specs.Saying.{is_said}
use Rattle.dconf_changesets.proofs.saying.is_said.Given as goal

-- the rest decides
abbrev pub invariant-loop-set : goal.invariant-loop-set
invariant-loop-set l = is_said (drop l.set-index l.said) l.is_stored ≡ is_said l.said l.is_stored

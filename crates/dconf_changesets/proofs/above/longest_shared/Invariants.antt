use Rattle.std.proofs.Common.{◌≡◌, ◌-◌}
use Rattle.dconf_changesets.specs.Above.{longest_shared}
use Rattle.dconf_changesets.proofs.above.longest_shared.Given as goal

-- none was found that is longer
abbrev pub invariant-loop-back : goal.invariant-loop-back
invariant-loop-back l = longest_shared l.path l.other (l.top - l.back) ≡ longest_shared l.path l.other l.top

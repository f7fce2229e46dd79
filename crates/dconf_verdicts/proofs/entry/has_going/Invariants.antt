use Rattle.std.proofs.Common.{◌≡◌, drop}
use Rattle.std.specs.List.{list_any}
use Rattle.dconf_verdicts.specs.Entries.{goes}
use Rattle.dconf_verdicts.proofs.entry.has_going.Given as goal

-- the rest decides
abbrev pub invariant-loop-edit : goal.invariant-loop-edit
invariant-loop-edit l = list_any goes (drop l.edit-index l.edits) ≡ list_any goes l.edits

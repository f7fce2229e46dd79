use Rattle.std.proofs.Common.{◌≡◌, drop}
use Rattle.std.specs.List.{list_all}
use Rattle.dconf_verdicts.specs.Entries.{is_there}
use Rattle.dconf_verdicts.proofs.entry.is_there.Given as goal

-- the rest decides
abbrev pub invariant-loop-edit : goal.invariant-loop-edit
invariant-loop-edit l = list_all is_there (drop l.edit-index l.edits) ≡ list_all is_there l.edits

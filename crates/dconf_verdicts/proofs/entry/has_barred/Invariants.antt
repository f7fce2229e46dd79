use Rattle.std.proofs.Common.{◌≡◌, drop}
use Rattle.std.specs.List.{list_any}
use Rattle.dconf_verdicts.specs.Entries.{is_barred}
use Rattle.dconf_verdicts.proofs.entry.has_barred.Given as goal

-- the rest decides
abbrev pub invariant-loop-edit : goal.invariant-loop-edit
invariant-loop-edit l = list_any is_barred (drop l.edit-index l.edits) ≡ list_any is_barred l.edits

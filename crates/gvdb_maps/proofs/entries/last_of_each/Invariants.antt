use Rattle.std.proofs.Common.{◌≡◌, ◌++◌, drop}
use Rattle.gvdb_maps.specs.Maps.{lent_entries, kept}
use Rattle.gvdb_maps.proofs.entries.last_of_each.Given as goal

abbrev pub invariant-loop-i : goal.invariant-loop-i
invariant-loop-i l = lent_entries l.last.items ++ kept (lent_entries (drop l.i l.entries)) ≡ kept (lent_entries l.entries)

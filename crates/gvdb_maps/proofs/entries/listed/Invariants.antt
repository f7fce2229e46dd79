use Rattle.std.proofs.Common.{◌≡◌, ◌++◌}
use Rattle.gvdb_maps.specs.Maps.{lent_entries, value_entries}
use Rattle.gvdb_maps.proofs.entries.listed.Given as goal

abbrev pub invariant-loop-path : goal.invariant-loop-path
invariant-loop-path l = lent_entries l.entries.items ++ value_entries l.path-iterator ≡ value_entries l.values.entries

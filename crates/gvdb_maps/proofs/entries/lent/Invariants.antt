use Rattle.std.proofs.Common.{◌≡◌, ◌++◌, drop}
use Rattle.gvdb_maps.specs.Maps.{lent_entries, value_entries, values_after}
use Rattle.gvdb_maps.proofs.entries.lent.Given as goal

abbrev pub invariant-loop-path : goal.invariant-loop-path
invariant-loop-path l =
    values_after ((lent_entries l.entries.items ++ lent_entries l.stretch.items) ++ value_entries (drop l.path-index l.rows)) ≡ values_after (value_entries l.rows)

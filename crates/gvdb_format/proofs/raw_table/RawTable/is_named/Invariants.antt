use Rattle.std.proofs.Common.{◌+◌, ◌≤◌, ◌↔◌, length}
use Rattle.dconf_model.specs.Names.{HasName}
use Rattle.gvdb_format.specs.Tables.{region}
use Rattle.gvdb_format.proofs.raw_table.RawTable.is_named.Given as goal

-- what is left of the name is that of the item at hand, in a step for each byte that is gone
abbrev pub invariant-loop-link : goal.invariant-loop-link
invariant-loop-link l = record {
  named : HasName (region l.fn.self) l.at l.rest ↔ HasName (region l.fn.self) l.i l.name;
  cost : l.steps + length l.rest ≤ l.fn.steps + length l.name;
  grows : l.fn.steps ≤ l.steps;
}

abbrev pub decreases-loop-link : goal.decreases-loop-link
decreases-loop-link l = length l.rest

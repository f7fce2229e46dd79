use Rattle.std.proofs.Common.{◌≡◌, ◌+◌, ◌≤◌}
use Rattle.gvdb_read.specs.Tables.{region}
use Rattle.dconf_layers.specs.LayerRows.{rows_from}
use Rattle.dconf_layers.proofs.layer.Layer.first_entry.Given as goal

-- what was passed over was no entry
abbrev pub invariant-loop-left : goal.invariant-loop-left
invariant-loop-left l = record {
  same : rows_from (region l.fn.self.values) l.next l.left ≡ rows_from (region l.fn.self.values) l.fn.next l.fn.left;
  inside : l.next + l.left ≤ l.fn.next + l.fn.left;
}

abbrev pub decreases-loop-left : goal.decreases-loop-left
decreases-loop-left l = l.left

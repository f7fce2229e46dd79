use Rattle.std.proofs.Common.{◌≡◌, ◌+◌, ◌*◌, ◌≤◌}
use Rattle.dconf_model.specs.Listed.{listed_keys}
use Rattle.gvdb_read.specs.Tables.{region}
use Rattle.gvdb_read.proofs.table.Table.first_key.Given as goal

-- what was passed over was no key
abbrev pub invariant-loop-left : goal.invariant-loop-left
invariant-loop-left l = record {
  same : listed_keys (region l.fn.self) l.at l.left ≡ listed_keys (region l.fn.self) l.fn.at l.fn.left;
  inside : l.at + 4 * l.left ≤ l.fn.at + 4 * l.fn.left;
}

abbrev pub decreases-loop-left : goal.decreases-loop-left
decreases-loop-left l = l.left

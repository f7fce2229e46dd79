use Rattle.std.proofs.Common.{◌≡◌, ◌≤◌, length}
use Rattle.std.specs.Prelude.{drop}
use Rattle.gvdb_format.specs.Tables.{region}
use Rattle.gvdb_format.proofs.NameWalks.{LeadsTo}
use Rattle.gvdb_format.proofs.raw_table.RawTable.write_name.Given as goal

-- the keys that were passed are in the room from the end at hand on
abbrev pub invariant-loop-link : goal.invariant-loop-link
invariant-loop-link l = record {
  walked : LeadsTo (region l.fn.self) l.i l.at (drop l.end l.room);
  inside : l.end ≤ length l.room;
  size : length l.room ≡ length l.fn.room;
}

abbrev pub decreases-loop-link : goal.decreases-loop-link
decreases-loop-link l = l.end

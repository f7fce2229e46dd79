use Rattle.std.proofs.Common.{◌≡◌}
use Rattle.dconf_model.specs.Table.{item_count}
use Rattle.gvdb_format.specs.Tables.{region}
use Rattle.gvdb_check.proofs.ChainSteps.{Climbs}
use Rattle.gvdb_check.proofs.chain.ends_at_noted.Given as goal

-- so many steps lead to the item at hand
abbrev pub invariant-loop : goal.invariant-loop
invariant-loop l = record {
  climbs : Climbs (region l.fn.table) l.fn.i l.at l.counter;
  all : l.end ≡ item_count (region l.fn.table);
}

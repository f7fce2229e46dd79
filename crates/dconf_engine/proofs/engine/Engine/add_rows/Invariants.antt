use Rattle.std.proofs.Common.{◌≡◌, drop}
use Rattle.dconf_model.specs.Changes.{all_storable, with_all}
use Rattle.dconf_engine.specs.Loads.{rows_of, not_locked}
use Rattle.dconf_engine.proofs.engine.Engine.add_rows.Given as goal

-- what is left gives what all rows give
abbrev pub invariant-loop-path : goal.invariant-loop-path
invariant-loop-path l = record {
  added : record l.values { values = with_all (not_locked l.self (rows_of (drop l.path-index l.rows))) l.values.values } ≡ record l.initial.values { values = with_all (not_locked l.self (rows_of l.rows)) l.initial.values.values };
  storable : all_storable (not_locked l.self (rows_of (drop l.path-index l.rows))) ≡ all_storable (not_locked l.self (rows_of l.rows));
}

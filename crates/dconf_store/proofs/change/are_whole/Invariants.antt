use Rattle.std.proofs.Common.{drop}
use Rattle.std.specs.List.{AllByRecursion}
use Rattle.dconf_model.specs.Stores.{IsLimitedValue}
use Rattle.dconf_engine.specs.Loads.{rows_of}
use Rattle.dconf_store.proofs.change.are_whole.Given as goal

-- if what is left is whole, all are
abbrev pub invariant-loop-value : goal.invariant-loop-value
invariant-loop-value l =
    AllByRecursion (λ row. IsLimitedValue row.value) (rows_of (drop l.value-index l.rows)) → AllByRecursion (λ row. IsLimitedValue row.value) (rows_of l.rows)

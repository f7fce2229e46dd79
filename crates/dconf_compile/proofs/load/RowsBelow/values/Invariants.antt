use Rattle.std.proofs.Common.{◌≡◌, drop, map}
use Rattle.dconf_compile.specs.Loading.{rows_loaded}
use Rattle.dconf_compile.specs.PathedRows.{pathed_meant, rows_given, values_of}
use Rattle.dconf_compile.proofs.PathSteps.{after_these}
use Rattle.dconf_compile.proofs.load.RowsBelow.values.Given as goal

abbrev pub invariant-loop-row : goal.invariant-loop-row
invariant-loop-row l =
    rows_loaded l.skip_doubles l.self
    ≡ after_these (record { rows = values_of l.values.items; left_out = map (λ path. path.now) l.left_out.items }) (rows_given l.skip_doubles (map pathed_meant (drop l.row-index l.row-items)))

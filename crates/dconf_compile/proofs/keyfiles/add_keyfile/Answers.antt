use Rattle.std.proofs.Common.{List, map, sym, subst}
use Rattle.std.specs.List.{AllByRecursion}
use Rattle.keyfile_core.specs.declared.rows.Row.{Row}
use Rattle.keyfile_core.specs.Rows.{row_meant}
use Rattle.dconf_compile.specs.Added.{IsReadRow}
use Rattle.dconf_compile.proofs.AddedRows.{no_rows, rows_compiled}
use Rattle.dconf_compile.proofs.FileSteps.{next_row}
use Rattle.dconf_compile.proofs.ReadRows.{rows_are_read}
use Rattle.dconf_compile.proofs.keyfiles.add_keyfile.Goals as goal

pub loop-row-init : goal.loop-row-init
loop-row-init c = record {
  added = no_rows (rows_compiled (map row_meant c.deref-row-items.result.now)) c.args.settings.now;
  left = subst (λ (l : List Row). AllByRecursion IsReadRow (map row_meant l)) (sym c.deref-row-items.ensures.value)
      (rows_are_read c.args.bytes.now (map row_meant c.in_ok-rows.rows.items) c.in_ok-rows.ensures.rows);
}

pub loop-row-preserved : goal.loop-row-preserved
loop-row-preserved c =
    let next = next_row c.deref-row-items.result.now c.loop-row.row-index _ c.loop-row-test.true _ _ _ _ c.loop-row.invariant.added c.loop-row.invariant.left c.in_default.ensures.added in
    record { added = next.0; left = next.1 }

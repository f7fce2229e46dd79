use Rattle.std.proofs.Common.{drop, map}
use Rattle.std.specs.List.{AllByRecursion}
use Rattle.keyfile_core.specs.Rows.{row_meant}
use Rattle.dconf_compile.specs.Added.{IsReadRow}
use Rattle.dconf_compile.proofs.AddedRows.{HasAddedRows, rows_compiled}
use Rattle.dconf_compile.proofs.keyfiles.add_keyfile.Given as goal

abbrev pub invariant-loop-row : goal.invariant-loop-row
invariant-loop-row l = record {
  added : HasAddedRows (rows_compiled (map row_meant l.row-items)) (rows_compiled (map row_meant (drop l.row-index l.row-items))) l.fn.settings l.settings;
  left : AllByRecursion IsReadRow (map row_meant (drop l.row-index l.row-items));
}

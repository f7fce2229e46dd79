use Rattle.std.proofs.Common.{◌≡◌, map, string_bytes, take}
use Rattle.keyfile_core.specs.Rows.{row_meant}
use Rattle.dconf_by_name.specs.LeftOut.{ignored_rows}
use Rattle.dconf_by_name.proofs.left_out.ignored_rows.Given as goal

abbrev pub invariant-loop-row : goal.invariant-loop-row
invariant-loop-row l = string_bytes l.text ≡ ignored_rows (map (λ lock. lock.now) l.locks) l.directory (map row_meant (take l.row-index l.rows))

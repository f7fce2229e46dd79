use Rattle.std.proofs.Common.{◌≡◌, map, take, drop}
use Rattle.std.specs.Prelude.{IfSome, IsTrue}
use Rattle.dconf_model.specs.Keyfiles.{first_row_fault, group_name, is_group}
use Rattle.keyfile_core.specs.DumpRows.{dump_meant, row_below}
use Rattle.keyfile_core.proofs.dump_row.rows_below.Given as goal

abbrev pub invariant-loop-at : goal.invariant-loop-at
invariant-loop-at g l = record {
  rows : map dump_meant l.rows.items ≡ map (row_below g.S.AsSetting.setting l.directory) (take l.at l.settings);
  faultless : first_row_fault 0 (map (row_below g.S.AsSetting.setting l.directory) l.settings) ≡ first_row_fault l.at (map (row_below g.S.AsSetting.setting l.directory) (drop l.at l.settings));
  group : IfSome l.before (λ part. IsTrue (is_group (group_name part.now)));
}

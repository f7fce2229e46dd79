use Rattle.std.proofs.Common.{drop}
use Rattle.std.specs.List.{enumerate_from}
use Rattle.dconf_model.specs.Lines.{read_file}
use Rattle.dconf_model.specs.Locks.{locks_in}
use Rattle.dconf_model.specs.Sources.{in_files}
use Rattle.dconf_model.specs.Sources.File.{lock_file}
use Rattle.dconf_compile.specs.Sources.{sources_of}
use Rattle.dconf_compile.proofs.AddedRows.{HasAddedLocks}
use Rattle.dconf_compile.proofs.locks.add_lock_files.Given as goal

abbrev pub invariant-loop-number : goal.invariant-loop-number
invariant-loop-number l = record {
  added :
      HasAddedLocks (in_files lock_file (read_file locks_in) (enumerate_from 0 (sources_of l.files)))
      (in_files lock_file (read_file locks_in) (enumerate_from l.number (sources_of (drop l.number l.files)))) l.fn.settings l.settings;
}

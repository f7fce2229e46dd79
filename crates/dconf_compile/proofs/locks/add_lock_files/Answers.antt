use Rattle.std.specs.List.{enumerate_from}
use Rattle.dconf_model.specs.Lines.{read_file}
use Rattle.dconf_model.specs.Locks.{locks_in}
use Rattle.dconf_model.specs.Sources.{in_files}
use Rattle.dconf_model.specs.Sources.File.{lock_file}
use Rattle.dconf_compile.specs.CompileFaults.{cause_of}
use Rattle.dconf_compile.specs.Sources.{sources_of}
use Rattle.dconf_compile.proofs.FileSteps.{next_locks_added, next_locks_stopped, stops_at}
use Rattle.dconf_compile.proofs.locks.add_lock_files.Goals as goal

pub returns-in-Err-clause-fault : goal.returns-in-Err-clause-fault
returns-in-Err-clause-fault c =
    let whole = in_files lock_file (read_file locks_in) (enumerate_from 0 (sources_of c.args.files.now)) in
    stops_at whole c.at.result _ c.in-Err.stop.line (cause_of c.in-Err.stop.cause) c.at.ensures.fault c.at.ensures.memory
    (next_locks_stopped c.args.files.now c.loop-number.number _ c.loop-number-test.true whole _ _ c.loop-number.invariant.added
    c.in-Err.stop.line (cause_of c.in-Err.stop.cause) c.in-Err.ensures.fault)

pub loop-number-preserved : goal.loop-number-preserved
loop-number-preserved c = record {
  added = next_locks_added c.args.files.now c.loop-number.number _ c.loop-number-test.true _ _ _ c.loop-number.invariant.added _ c.in_default.ensures.added;
}

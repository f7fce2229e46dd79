use Rattle.std.proofs.Common.{map}
use Rattle.dconf_model.specs.Sources.{compiled, in_files}
use Rattle.dconf_model.specs.Sources.File.{keyfile}
use Rattle.dconf_compile.specs.CompileFaults.{cause_of}
use Rattle.dconf_compile.specs.Sources.{numbered}
use Rattle.dconf_compile.proofs.FileSteps.{next_file_added, next_file_stopped, stops_at}
use Rattle.dconf_compile.proofs.keyfiles.add_keyfiles.Goals as goal

pub returns-in-Err-clause-fault : goal.returns-in-Err-clause-fault
returns-in-Err-clause-fault c =
    let whole = in_files keyfile compiled (map numbered c.args.files.now) in
    stops_at whole c.at.result _ c.in-Err.stop.line (cause_of c.in-Err.stop.cause) c.at.ensures.fault c.at.ensures.memory
    (next_file_stopped c.args.files.now c.loop-file.file-index _ c.loop-file-test.true whole _ _ c.loop-file.invariant.added
    c.in-Err.stop.line (cause_of c.in-Err.stop.cause) c.in-Err.ensures.fault)

pub loop-file-preserved : goal.loop-file-preserved
loop-file-preserved c = record {
  added = next_file_added c.args.files.now c.loop-file.file-index _ c.loop-file-test.true _ _ _ c.loop-file.invariant.added _ c.in_default.ensures.added;
}

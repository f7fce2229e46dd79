use Rattle.std.proofs.Common.{Err}
use Rattle.std.proofs.lemmas.Result.{err_from_is_err_and}
use Rattle.dconf_model.specs.Outcomes.{Repairs}
use Rattle.dconf_streams.proofs.Decisions.{decides_by_file, decides_without_file}
use Rattle.dconf_commands.proofs.commands.repair.repair.Goals as goal

pub returns-in_err-bytes : goal.returns-in_err-bytes
returns-in_err-bytes g c = λ input.
    let p = err_from_is_err_and c.from_residual.result c.from_residual.ensures.1 in
    rw (p.1, p.2) (decides_without_file g.F.Folder c.args.folder.now c.file.new.folder 0 c.args.name.now (Err c.in_err-bytes.field-0.0) (Repairs c.args.out.now) (c.in_err-bytes.ensures.err 0))

pub returns : goal.returns
returns g c = λ input.
    decides_by_file g.F.Folder c.args.folder.now c.file.new.folder 0 c.args.name.now c.in_ok-bytes.bytes.items c.repaired.result (Repairs c.args.out.now) c.in_ok-bytes.ensures.ok c.repaired.ensures

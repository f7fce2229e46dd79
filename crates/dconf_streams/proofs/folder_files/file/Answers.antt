use Rattle.std.proofs.Common.{Err}
use Rattle.std.proofs.lemmas.Result.{err_from_is_err_and}
use Rattle.dconf_streams.proofs.Decisions.{decides_no_file, decides_without}
use Rattle.dconf_streams.proofs.folder_files.file.Goals as goal

pub returns-in_err-bytes-clause-err : goal.returns-in_err-bytes-clause-err
returns-in_err-bytes-clause-err g c =
    let p = err_from_is_err_and c.from_residual.result c.from_residual.ensures.1 in
    rw (p.1, p.2) (λ n. decides_without g.F.Folder c.args.folder.now c.file_if_any.new.folder c.args.name.now n (Err c.in_err-bytes.field-0.0)
    (c.in_err-bytes.ensures.err n))

pub returns-in-None-clause-err : goal.returns-in-None-clause-err
returns-in-None-clause-err g c = λ n.
    decides_no_file g.F.Folder c.args.folder.now c.file_if_any.new.folder c.args.name.now n (Err c.refused.result)
    (rw c.in-None.is at c.in_ok-bytes.ensures.ok) c.refused.ensures

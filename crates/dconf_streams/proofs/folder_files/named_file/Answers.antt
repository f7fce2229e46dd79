use Rattle.std.proofs.lemmas.Result.{err_from_is_err_and}
use Rattle.dconf_streams.proofs.folder_files.named_file.Goals as goal

pub returns-in_err-bytes-clause-err : goal.returns-in_err-bytes-clause-err
returns-in_err-bytes-clause-err g c =
    let p = err_from_is_err_and c.from_residual.result c.from_residual.ensures.1 in
    rw (p.1, p.2) c.in_err-bytes.ensures.err

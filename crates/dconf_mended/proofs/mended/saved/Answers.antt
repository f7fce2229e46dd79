use Rattle.std.proofs.lemmas.Result.{IfOk-weaker}
use Rattle.dconf_mended.proofs.MendLaws.{as_nothing}
use Rattle.dconf_mended.proofs.mended.saved.Goals as goal

pub returns-in-Err-clause-mended : goal.returns-in-Err-clause-mended
returns-in-Err-clause-mended c =
    IfOk-weaker c.without.result _ _
    (λ it is. as_nothing c.args.file.now it.file.items it.standing it.keys it.locks c.in-Err.fault c.requires c.in-Err.ensures.fault is.0 is.1 is.2 is.3 is.4)
    c.without.ensures.nothing

use Rattle.std.proofs.Common.{refl}
use Rattle.dconf_model.proofs.PathMaps.{no_truth}
use Rattle.dconfdb_calls.proofs.KeylessLaws.{not_bad}
use Rattle.dconfdb_calls.proofs.keyless.is_sound.Goals as goal

pub returns-in-Ok : goal.returns-in-Ok
returns-in-Ok c = ((λ is. (c.in-Ok.ensures.opened.0, c.in-Ok.ensures.opened.1)), (λ good. refl))

pub returns-in-Err : goal.returns-in-Err
returns-in-Err c = ((λ is. absurd (no_truth is)), (λ good. absurd (not_bad c.args.bytes.now c.in-Err.ensures.fault.0 good c.in-Err.ensures.fault.1)))

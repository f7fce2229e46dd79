use Rattle.std.proofs.Common.{◌∷◌, [], Err, subst, sym}
use Rattle.dconf_path.specs.Paths.{key_text}
use Rattle.refused.specs.Faults.{fault_in}
use Rattle.dconf_engine.specs.ChangeFaults.{refusal_of}
use Rattle.dconf_commands.specs.Refusals.{IsLockedPath}
use Rattle.dconf_commands.proofs.ChangeLaws.{refuses_change, reset_locks}
use Rattle.dconf_commands.proofs.commands.reset.without_key.Goals as goal

pub returns-in-Err : goal.returns-in-Err
returns-in-Err c =
    let path = key_text c.args.key in
    let why = fault_in refusal_of c.in-Err.fault in
    refuses_change (Err c.change_refused.result) (path ∷ []) _ _ why c.in-Err.ensures.fault
    (c.change_refused.ensures (path ∷ []) (subst (λ name. IsLockedPath (path ∷ []) why name) (sym c.as_str.ensures)
    (reset_locks c.args.engine path why c.in-Err.ensures.fault)))

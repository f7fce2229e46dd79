use Rattle.std.proofs.Common.{◌∙◌, [], Some, length, refl, sym, subst}
use Rattle.std.proofs.lemmas.Option.{slice_get_past, slice_get_read}
use Rattle.dconf_model.specs.Changes.{paths_of}
use Rattle.dconf_engine.specs.ChangeFaults.{refusal_of}
use Rattle.dconf_engine.specs.Loads.{rows_of}
use Rattle.refused.specs.Faults.{fault_in}
use Rattle.refused.specs.declared.Refused.{Refused}
use Rattle.dconf_engine.specs.declared.change_fault.ChangeFlaw.{ChangeFlaw}
use Rattle.dconf_commands.specs.Refusals.{IsLockedPath}
use Rattle.dconf_commands.proofs.LoadLaws.{load_path, no_load_path}
use Rattle.dconf_commands.proofs.commands.load.locked_path.Goals as goal

pub returns-in-Some : goal.returns-in-Some
returns-in-Some c =
    let rows = c.args.rows.now in
    let row = c.in-Fault-Locked.row in
    let x = c.in-Some.row.now in
    subst (λ (f : Refused ChangeFlaw). IsLockedPath (paths_of (rows_of rows)) (fault_in refusal_of f) c.as_str.result.now) (sym c.in-Fault-Locked.is)
    (subst (λ (w : ChangeFlaw). IsLockedPath (paths_of (rows_of rows)) (Some (refusal_of w)) c.as_str.result.now) (sym (rw c.in-Fault-Locked.is at c.in-Fault-Locked.field-0-is))
    (c.as_str.ensures ∙ load_path rows row x (slice_get_read rows (length rows) row x refl c.in-Some.ensures.lookup.3.0 c.in-Some.ensures.lookup.1)))

pub returns-in-None : goal.returns-in-None
returns-in-None c =
    let rows = c.args.rows.now in
    subst (λ (f : Refused ChangeFlaw). IsLockedPath (paths_of (rows_of rows)) (fault_in refusal_of f) []) (sym c.in-Fault-Locked.is)
    (subst (λ (w : ChangeFlaw). IsLockedPath (paths_of (rows_of rows)) (Some (refusal_of w)) []) (sym (rw c.in-Fault-Locked.is at c.in-Fault-Locked.field-0-is))
    (no_load_path rows c.in-Fault-Locked.row (slice_get_past rows c.in-Fault-Locked.row c.in-None.ensures.lookup.3)))

use Rattle.std.proofs.Common.{◌≡◌, Err, subst}
use Rattle.std.proofs.lemmas.Result.{err_from_is_err_and}
use Rattle.gv_model.specs.Decode.{decode}
use Rattle.gv_types.specs.TypeFaults.{type_fault_of}
use Rattle.gv_types.specs.TypeStr.{ty}
use Rattle.dconf_model.specs.Outcomes.{shown_outcome}
use Rattle.dconf_streams.specs.Answers.{GivesOutcome}
use Rattle.dconf_commands.proofs.Shows.{checked_type, no_type, shows_file, shows_no_file, shows_no_type}
use Rattle.dconf_commands.proofs.commands.show.show.Goals as goal

pub returns-in-Err : goal.returns-in-Err
returns-in-Err g c = λ input.
    shows_no_type g.F.Folder c.args.type_text.now c.args.name.now (Err c.refused.result) input c.args.folder.now (type_fault_of c.in-Err.fault)
    (no_type c.args.type_text.now c.in-Err.ensures.accepts.1) c.in-Err.ensures.fault c.refused.ensures

pub returns-in_err-bytes : goal.returns-in_err-bytes
returns-in_err-bytes g c = λ input.
    let p = err_from_is_err_and c.from_residual.result c.from_residual.ensures.1 in
    let typed = checked_type c.in-Ok.type_str.text.now c.args.type_text.now c.in-Ok.ensures.found c.in-Ok.type_str.spells_type in
    rw (p.1, p.2) (shows_no_file g.F.Folder c.args.type_text.now c.args.name.now (Err c.in_err-bytes.field-0.0) input c.args.folder.now c.file.new.folder
    (ty c.in-Ok.type_str) typed (c.in_err-bytes.ensures.err 0))

pub returns : goal.returns
returns g c = λ input.
    let typed = checked_type c.in-Ok.type_str.text.now c.args.type_text.now c.in-Ok.ensures.found c.in-Ok.type_str.spells_type in
    shows_file g.F.Folder c.args.type_text.now c.args.name.now c.shown.result input c.args.folder.now c.file.new.folder (ty c.in-Ok.type_str)
    c.in_ok-bytes.bytes.items typed c.in_ok-bytes.ensures.ok
    (subst (λ b. GivesOutcome c.shown.result (λ o. o ≡ shown_outcome (decode (ty c.in-Ok.type_str) b))) c.deref.ensures.value c.shown.ensures)

use Rattle.std.proofs.Common.{◌≡◌, ◌∙◌, Err, ap, map, string_bytes, subst, sym}
use Rattle.refused.specs.Faults.{OfFault}
use Rattle.dconf_model.specs.Keyfiles.{dumped}
use Rattle.dconf_model.specs.Outcomes.{done, with_lines}
use Rattle.dconf_path.specs.Paths.{directory_text}
use Rattle.keyfile_core.specs.RowsFaults.{rows_fault_of}
use Rattle.dconf_streams.specs.Answers.{GivesOutcome}
use Rattle.dconf_commands.specs.Dumps.{setting_of}
use Rattle.dconf_commands.proofs.DumpLaws.{unwritten_is, written_is}
use Rattle.dconf_commands.proofs.commands.dump.written.Goals as goal

pub returns-in-Err-Fault : goal.returns-in-Err-Fault
returns-in-Err-Fault c =
    let directory = directory_text c.args.directory in
    let settings = map setting_of c.args.settings.now in
    let fault = subst (OfFault (λ fault. dumped directory settings ≡ Err (rows_fault_of fault))) c.in-Err-Fault.field-0-is c.in-Err-Fault.ensures.fault in
    subst (λ outcome. GivesOutcome (Err c.refused_row.result) (λ o. o ≡ outcome))
    (sym (ap (with_lines c.args.comments.now) (unwritten_is directory settings (rows_fault_of c.in-Err-Fault.flaw) fault))) c.refused_row.ensures

pub returns-in_ok-insert_str-in-Ok : goal.returns-in_ok-insert_str-in-Ok
returns-in_ok-insert_str-in-Ok c =
    let directory = directory_text c.args.directory in
    let settings = map setting_of c.args.settings.now in
    let text = string_bytes c.in-Ok.text in
    ap done c.in_ok-insert_str-in-Ok.ensures.bytes ∙ sym (ap (with_lines c.args.comments.now) (written_is directory settings text c.in-Ok.ensures.text))

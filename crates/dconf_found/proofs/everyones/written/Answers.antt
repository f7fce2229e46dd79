use Rattle.std.proofs.Common.{rules, ◌≡◌, ◌∙◌, Err, ap, sym}
use Rattle.dconf_model.specs.Profiles.{databases_in}
use Rattle.dconf_path.specs.Faults.{profile_fault_of}
use Rattle.dconf_path.proofs.TextFaults.{reads_lines, reads_no_lines}
use Rattle.dconf_found.proofs.everyones.written.Goals as goal

pub returns-in-Err : goal.returns-in-Err
returns-in-Err c = (_, reads_no_lines databases_in c.args.bytes.now _ c.in-Err.ensures.fault)

pub returns-in-Err-Fault : goal.returns-in-Err-Fault
returns-in-Err-Fault c =
    let flaw = c.in-Err-Fault.field-0-0 in
    let wrong : databases_in c.in-Ok.text.now ≡ Err (profile_fault_of flaw) = search rules in
    (profile_fault_of flaw, reads_lines databases_in c.args.bytes.now c.in-Ok.ensures.faultless ∙ (ap databases_in (sym c.in-Ok.ensures.text) ∙ wrong))

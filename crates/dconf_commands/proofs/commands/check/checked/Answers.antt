use Rattle.std.proofs.Common.{Err, refl, subst}
use Rattle.dconf_model.specs.Sound.{IsFirstFault}
use Rattle.gvdb_format.specs.Faults.{open_fault_of}
use Rattle.gvdb_check.specs.Unsounds.{rule_of}
use Rattle.dconf_model.specs.Databases.Verdict.{no_database, unsound}
use Rattle.dconf_commands.proofs.Shows.{checks_as}
use Rattle.dconf_commands.proofs.commands.check.checked.Goals as goal

pub returns-in-Err : goal.returns-in-Err
returns-in-Err c = checks_as c.args.bytes.now (Err c.refused.result) (no_database (open_fault_of c.in-Err.fault)) c.in-Err.ensures.fault c.refused.ensures

pub returns-in-Err-check : goal.returns-in-Err-check
returns-in-Err-check c =
    let rule = rule_of c.in-Err-check.fault.rule in
    let at = c.in-Err-check.fault.item in
    checks_as c.args.bytes.now (Err c.unsound.result) (unsound rule at)
    (c.in-Ok.ensures.opens.0 refl, subst (λ t. IsFirstFault t rule at) c.in-Ok.ensures.root c.in-Err-check.ensures.fault) c.unsound.ensures

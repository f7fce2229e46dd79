use Rattle.std.proofs.Common.{[], Err}
use Rattle.refused.specs.Faults.{fault_in}
use Rattle.dconf_engine.specs.ChangeFaults.{refusal_of}
use Rattle.dconf_commands.proofs.ChangeLaws.{none_is_locked, refuses_change}
use Rattle.dconf_commands.proofs.commands.reset.without_directory.Goals as goal

pub returns-in-Err : goal.returns-in-Err
returns-in-Err c =
    let why = fault_in refusal_of c.in-Err.fault in
    refuses_change (Err c.change_refused.result) [] _ _ why c.in-Err.ensures.fault (c.change_refused.ensures [] (none_is_locked why))

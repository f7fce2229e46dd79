use Rattle.std.proofs.Common.{ap, inr}
use Rattle.dconf_path.specs.Faults.{profile_fault_of}
use Rattle.dconfdb_calls.specs.GoodLines.{of_profile}
use Rattle.dconfdb_calls.proofs.lines.own_name.Goals as goal

pub returns-in-Err-Fault-clause-fault : goal.returns-in-Err-Fault-clause-fault
returns-in-Err-Fault-clause-fault c =
    let fault = rw c.in-Err-Fault.field-0-is at c.in-Err-Fault.ensures.fault in
    inr ((profile_fault_of c.in-Err-Fault.flaw).cause, ap of_profile fault, c.fault_of.ensures)

use Rattle.std.proofs.Common.{inr, subst, ℕ, List}
use Rattle.dconf_path.specs.Faults.{profile_fault_of}
use Rattle.dconfdb_calls.specs.Named.{IsNoProfile}
use Rattle.dconfdb_calls.specs.Numbers.{number_of}
use Rattle.dconfdb_calls.proofs.profiles.profile_databases.Goals as goal

pub returns-in-Err-Fault-clause-fault : goal.returns-in-Err-Fault-clause-fault
returns-in-Err-Fault-clause-fault c =
    let fault = rw c.in-Err-Fault.field-0-is at c.in-Err-Fault.ensures.fault in
    subst (λ (t : List ℕ). IsNoProfile t (number_of c.fault_of.result) c.line.result) c.in-Ok.ensures.cases.0
    (inr (inr (profile_fault_of c.in-Err-Fault.flaw, fault, c.fault_of.ensures, c.line.ensures)))

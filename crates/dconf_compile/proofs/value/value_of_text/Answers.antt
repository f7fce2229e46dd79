use Rattle.dconf_compile.proofs.TextMeanings.{fault_read, value_read}
use Rattle.dconf_compile.proofs.value.value_of_text.Goals as goal

pub returns-in-Ok-clause-value : goal.returns-in-Ok-clause-value
returns-in-Ok-clause-value c = value_read c.args.text.now _ c.in-Ok.ensures.value

pub returns-in-Err-Fault-clause-fault : goal.returns-in-Err-Fault-clause-fault
returns-in-Err-Fault-clause-fault c = fault_read c.args.text.now c.in-Err-Fault.flaw (rw c.in-Err-Fault.field-0-is at c.in-Err-Fault.ensures.fault)

use Rattle.std.proofs.Common.{◌≡◌, Err}
use Rattle.std.specs.Prelude.{IfSome}
use Rattle.dconf_compile.specs.Added.{text_compiled}
use Rattle.dconf_compile.specs.CompileFaults.{cause_of}
use Rattle.dconf_compile.proofs.TextMeanings.{stops, text_refused, text_stored, text_too_large}
use Rattle.dconf_compile.proofs.rows.stored.Goals as goal

pub returns-in_err-value-clause-fault : goal.returns-in_err-value-clause-fault
returns-in_err-value-clause-fault c =
    let cause = c.in_err-value.field-0.0 in
    stops (λ cause. IfSome (cause_of cause) (λ why. text_compiled c.args.text.now ≡ Err why)) c.from_residual.result cause
    (text_refused c.args.text.now (cause_of cause) c.in_err-value.ensures.fault) c.from_residual.ensures.1

pub returns-in-Err-Fault-clause-fault : goal.returns-in-Err-Fault-clause-fault
returns-in-Err-Fault-clause-fault c = text_too_large c.args.text.now c.in_ok-value.value c.in_ok-value.ensures.value (rw c.in-Err-Fault.field-0-is at c.in-Err-Fault.ensures.fault)

pub returns-in-Ok-clause-bytes : goal.returns-in-Ok-clause-bytes
returns-in-Ok-clause-bytes c =
    let made = c.in-Ok.ensures in
    record {
      value = c.in_ok-value.value;
      read = text_stored c.args.text.now c.in_ok-value.value c.in_ok-value.ensures.value made.levels made.fits;
      limited = (made.whole.value, made.whole.limits);
      bytes = made.bytes;
    }

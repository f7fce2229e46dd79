use Rattle.std.proofs.Common.{◌≡◌, Err, IfErr, IfSome, OnOk, sym, ap, subst, ◌∙◌}
use Rattle.std.proofs.lemmas.Result.{err_from_is_err_and}
use Rattle.dconf_model.specs.Lines.{read_file}
use Rattle.dconf_model.specs.Locks.{locks_in}
use Rattle.dconf_path.specs.Faults.{text_fault_of}
use Rattle.dconf_path.proofs.TextFaults.{reads_lines, reads_no_lines}
use Rattle.dconf_compile.specs.Added.{AddsLocks}
use Rattle.dconf_compile.specs.LineStops.{line_fault_of}
use Rattle.dconf_compile.proofs.locks.add_lock_file.Goals as goal

pub returns-clause-added : goal.returns-clause-added
returns-clause-added c =
    let is = reads_lines locks_in c.args.bytes.now c.in_ok-settings_text.ensures.faultless in
    let same : read_file locks_in c.args.bytes.now ≡ locks_in c.in_ok-settings_text.field-0.now = is ∙ ap locks_in (sym c.in_ok-settings_text.ensures.text) in
    subst (λ r. OnOk c.add_locks.result (AddsLocks r c.args.settings.now c.add_locks.new.settings)) (sym same) c.add_locks.ensures.added

pub returns-clause-fault : goal.returns-clause-fault
returns-clause-fault c =
    let is = reads_lines locks_in c.args.bytes.now c.in_ok-settings_text.ensures.faultless in
    let same : read_file locks_in c.args.bytes.now ≡ locks_in c.in_ok-settings_text.field-0.now = is ∙ ap locks_in (sym c.in_ok-settings_text.ensures.text) in
    subst (λ r. IfErr c.add_locks.result (λ stop. IfSome (line_fault_of stop) (λ fault. r ≡ Err fault))) (sym same) c.add_locks.ensures.fault

pub returns-in_err-settings_text-clause-fault : goal.returns-in_err-settings_text-clause-fault
returns-in_err-settings_text-clause-fault c =
    let p = err_from_is_err_and c.from_residual.result c.from_residual.ensures.1 in
    rw p.1 (subst (λ o. IfSome o (λ fault. read_file locks_in c.args.bytes.now ≡ Err fault)) (sym p.2)
    (reads_no_lines locks_in c.args.bytes.now (text_fault_of c.in_err-settings_text.field-0.0) c.in_err-settings_text.ensures.fault))

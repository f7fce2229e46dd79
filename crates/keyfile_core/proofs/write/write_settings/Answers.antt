use Rattle.std.proofs.Common.{None, map, ap, ◌∙◌}
use Rattle.std.proofs.lemmas.Result.{err_from_is_err_and}
use Rattle.dconf_model.specs.Keyfiles.{text_after}
use Rattle.keyfile_core.specs.DumpRows.{dump_meant}
use Rattle.keyfile_core.proofs.DumpTexts.{has_fault, is_dumped}
use Rattle.keyfile_core.proofs.write.write_settings.Goals as goal

pub returns-in_err-rows-clause-fault : goal.returns-in_err-rows-clause-fault
returns-in_err-rows-clause-fault g c =
    let p = err_from_is_err_and c.from_residual.result c.from_residual.ensures.1 in
    let fault = has_fault g.S.AsSetting.setting c.as_str.result.now c.args.settings.now c.in_err-rows.field-0.0 c.in_err-rows.ensures.fault in
    rw (p.1, p.2, ← c.as_str.ensures) fault

pub returns-clause-text : goal.returns-clause-text
returns-clause-text g c =
    let text = c.in_ok-text_of.ensures ∙ ap (λ rows. text_after None (map dump_meant rows)) c.deref.ensures.value in
    let dump = is_dumped g.S.AsSetting.setting c.as_str.result.now c.args.settings.now (map dump_meant c.in_ok-rows.rows.items) (map dump_meant c.sort_rows.new.rows.items) _
    c.in_ok-rows.ensures.rows c.in_ok-rows.ensures.faultless c.in_ok-sort_rows.ensures text in
    rw (← c.as_str.ensures) dump

use Rattle.std.proofs.Common.{◌≡◌, Ok, Err, IfOk, IfErr, map, sym, ap, subst, ◌∙◌, None}
use Rattle.std.specs.List.{slice_split}
use Rattle.refused.specs.Faults.{OfFault}
use Rattle.dconf_model.specs.Keyfiles.{rows_of}
use Rattle.dconf_path.specs.Faults.{text_fault_of}
use Rattle.keyfile_core.specs.Feeds.{is_feed}
use Rattle.keyfile_core.specs.KeyfileFaults.{fault_of}
use Rattle.keyfile_core.specs.Readings.{read_below}
use Rattle.keyfile_core.specs.Rows.{row_meant}
use Rattle.keyfile_core.proofs.ReadingLaws.{rows_are, rows_refused}
use Rattle.keyfile_core.proofs.rows.read.Goals as goal

pub returns-in-Ok-clause-rows : goal.returns-in-Ok-clause-rows
returns-in-Ok-clause-rows c =
    let is = rows_are c.args.bytes.now c.in-Ok.ensures.faultless in
    let same : rows_of c.args.bytes.now ≡ read_below None 0 (slice_split is_feed c.in-Ok.text.now) = is ∙ ap (λ t. read_below None 0 (slice_split is_feed t)) (sym c.in-Ok.ensures.text) in
    subst (λ r. IfOk c.read_text.result (λ rows. r ≡ Ok (map row_meant rows.items))) (sym same) c.read_text.ensures.rows

pub returns-in-Ok-clause-fault : goal.returns-in-Ok-clause-fault
returns-in-Ok-clause-fault c =
    let is = rows_are c.args.bytes.now c.in-Ok.ensures.faultless in
    let same : rows_of c.args.bytes.now ≡ read_below None 0 (slice_split is_feed c.in-Ok.text.now) = is ∙ ap (λ t. read_below None 0 (slice_split is_feed t)) (sym c.in-Ok.ensures.text) in
    subst (λ r. IfErr c.read_text.result (OfFault (λ fault. r ≡ Err (fault_of fault)))) (sym same) c.read_text.ensures.fault

pub returns-in-Err-clause-fault : goal.returns-in-Err-clause-fault
returns-in-Err-clause-fault c =
    rows_refused c.args.bytes.now (text_fault_of c.in-Err.fault) c.in-Err.ensures.fault ∙ ap Err (sym c.of_text.ensures)

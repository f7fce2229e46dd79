use Rattle.std.proofs.Common.{◌≡◌, List, [], ◌∷◌, ◌++◌, Err, length, map, sym, ap, ◌∙◌, arith}
use Rattle.std.proofs.lemmas.List.{map-append}
use Rattle.dconf_model.specs.Keyfiles.{Row}
use Rattle.keyfile_core.specs.Feeds.{lines_in}
use Rattle.keyfile_core.specs.KeyfileFaults.{cause_of}
use Rattle.keyfile_core.specs.Readings.{read_below}
use Rattle.keyfile_core.specs.Rows.{row_meant}
use Rattle.keyfile_core.proofs.LineParts.{left, less_left, nothing_left, text_of}
use Rattle.keyfile_core.proofs.ReadingLaws.{with_rows, with_none, says_row, is_wrong, at_line}
use Rattle.keyfile_core.proofs.rows.read_text.Goals as goal

pub returns-in-Err-clause-fault : goal.returns-in-Err-clause-fault
returns-in-Err-clause-fault c =
    let rows : List Row = map row_meant c.loop-rest.rows.items in
    let group = text_of c.loop-rest.reader.group in
    let l = c.split_line.result.0.now in
    let more = lines_in (text_of c.split_line.result.1) in
    let here = at_line rows group c.loop-rest.reader.line c.loop-rest.rest c.in-Some.text l more c.in-Some.is c.split_line.ensures.parts in
    let wrong = is_wrong rows group c.loop-rest.reader.line l more (cause_of c.in-Err.cause) c.in-Err.ensures.reading in
    sym (here ∙ c.loop-rest.invariant.reads) ∙ (wrong ∙ (λ i. Err (record { line = sym c.in-Err.ensures.line i; cause = cause_of c.in-Err.cause })))

pub loop-rest-preserved-in_ok-push-in-Ok-Some : goal.loop-rest-preserved-in_ok-push-in-Ok-Some
loop-rest-preserved-in_ok-push-in-Ok-Some c =
    let rows : List Row = map row_meant c.loop-rest.rows.items in
    let row = c.in-Ok-Some.row in
    let group = text_of c.loop-rest.reader.group in
    let l = c.split_line.result.0.now in
    let more = lines_in (text_of c.split_line.result.1) in
    let here = at_line rows group c.loop-rest.reader.line c.loop-rest.rest c.in-Some.text l more c.in-Some.is c.split_line.ensures.parts in
    let reading = rw c.in-Ok-Some.field-0-is at c.in-Ok-Some.ensures.reading in
    let found = says_row rows group c.loop-rest.reader.line l more (row_meant row) reading in
    let pushed : map row_meant c.push.new.self.items ≡ rows ++ row_meant row ∷ [] = ap (map row_meant) c.in_ok-push-in-Ok-Some.ensures.items ∙ map-append row_meant c.loop-rest.rows.items (row ∷ []) in
    let less = less_left c.split_line.result.1 (length c.in-Some.text.now) c.split_line.ensures.shorter in
    let before = ap (λ o. left (text_of o)) c.in-Some.is in
    record {
      reads = (λ i. with_rows (pushed i) (read_below (c.read.ensures.group i) (c.read.ensures.line i) more)) ∙ (sym found ∙ (here ∙ c.loop-rest.invariant.reads));
      room = omega (arith, less, before, c.read.ensures.line, c.loop-rest.invariant.room);
    }

pub returns-clause-rows : goal.returns-clause-rows
returns-clause-rows c =
    let rows : List Row = map row_meant c.loop-rest.rows.items in
    sym c.loop-rest.invariant.reads
    ∙ (ap (λ ls. with_rows rows (read_below (text_of c.loop-rest.reader.group) c.loop-rest.reader.line ls)) (nothing_left c.loop-rest.rest c.in_default.not-Some) ∙ with_none rows)

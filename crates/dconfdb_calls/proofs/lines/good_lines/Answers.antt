use Rattle.std.proofs.Common.{◌∙◌, arith, ap, sym, length}
use Rattle.std.specs.Prelude.{option_map}
use Rattle.keyfile_core.specs.Feeds.{lines_in}
use Rattle.dconfdb_calls.specs.GoodLines.{fault_from, first_fault, good_names, line_fault, names_from}
use Rattle.keyfile_core.proofs.LineParts.{at_next, left, less_left, nothing_left, text_of}
use Rattle.dconfdb_calls.proofs.LineLaws.{fault_on, names_on, pairs}
use Rattle.dconfdb_calls.proofs.lines.good_lines.Goals as goal

pub loop-rest-preserved : goal.loop-rest-preserved
loop-rest-preserved c =
    let text = c.args.text.now in
    let old = c.loop-rest.lines.names.items in
    let new = c.add.new.self.names.items in
    let l = c.split_line.result.0.now in
    let more = lines_in (text_of c.split_line.result.1) in
    let lines = lines_in (text_of c.loop-rest.rest) in
    let here = at_next c.loop-rest.rest c.in-Some.text l more c.in-Some.is c.split_line.ensures.parts in
    let less = less_left c.split_line.result.1 (length c.in-Some.text.now) c.split_line.ensures.shorter in
    let before = ap (λ o. left (text_of o)) c.in-Some.is in
    record {
      names = names_on old new l more lines (good_names text) here c.in_ok-add.ensures.names c.loop-rest.invariant.names;
      fault = fault_on (option_map line_fault c.loop-rest.lines.fault) (option_map line_fault c.add.new.self.fault) c.loop-rest.number old new l more lines (first_fault text)
          here c.in_ok-add.ensures.names c.in_ok-add.ensures.fault c.loop-rest.invariant.fault;
      room = omega (arith, less, before, c.loop-rest.invariant.room);
    }

pub returns-clause-names : goal.returns-clause-names
returns-clause-names c =
    sym (ap (names_from (pairs c.loop-rest.lines.names.items)) (nothing_left c.loop-rest.rest c.in_default.not-Some)) ∙ c.loop-rest.invariant.names

pub returns-clause-fault : goal.returns-clause-fault
returns-clause-fault c =
    sym (ap (fault_from (option_map line_fault c.loop-rest.lines.fault) c.loop-rest.number (pairs c.loop-rest.lines.names.items)) (nothing_left c.loop-rest.rest c.in_default.not-Some))
    ∙ c.loop-rest.invariant.fault

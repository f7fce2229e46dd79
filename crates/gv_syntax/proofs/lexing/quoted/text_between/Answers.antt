use Rattle.std.proofs.Common.{rules, false, ap, sym, subst, arith, length, string_bytes, ◌+◌}
use Rattle.std.proofs.lemmas.Str.{IsCharBoundary-after_ascii}
use Rattle.std.proofs.lemmas.List.{take_rest}
use Rattle.gv_model.specs.Strings.StringStep.{faulty}
use Rattle.gv_syntax.specs.LexSteps.{char_bytes}
use Rattle.gv_syntax.specs.ModelTokens.{cause_of}
use Rattle.gv_model.proofs.LowBytes.{quote_is_low}
use Rattle.gv_syntax.proofs.QuotedLaws.{SoFar, at_quote, plain_more, at_special, rest_is_special, after_part, part_end_cuts, at_close, at_part, at_end}
use Rattle.gv_syntax.proofs.lexing.quoted.text_between.Goals as goal

pub loop-string-init : goal.loop-string-init
loop-string-init c = record {
  cuts = IsCharBoundary-after_ascii c.args.text.now c.args.from c.utf8.text c.requires.0 (quote_is_low _ c.requires.1);
  so_far = rw c.new-string.ensures.bytes (at_quote false c.args.text.now c.args.from);
}

pub text_part-requires-clause-ascii : goal.text_part-requires-clause-ascii
text_part-requires-clause-ascii c =
    let text = c.args.text.now in
    let plain = rw c.as_bytes-bytes.ensures.value at c.in_ok-at.ensures.end in
    let unended = rw c.as_bytes-bytes.ensures.value at c.if-at-bytes.false in
    rw c.as_bytes-bytes.ensures.value (rest_is_special text c.in_ok-at.at (at_special text _ c.loop-string.at c.in_ok-at.at c.requires.1 c.loop-string.invariant.cuts.0 plain.0 unended))

pub loop-string-preserved : goal.loop-string-preserved
loop-string-preserved c =
    let text = c.args.text.now in
    let end = c.in_ok-at.at in
    let plain = rw c.as_bytes-bytes.ensures.value at c.in_ok-at.ensures.end in
    let so_far = plain_more text c.args.from c.loop-string.at end _ (string_bytes c.push_plain.new.string) c.loop-string.invariant.so_far plain.0 plain.1 in
    let is_there = rw (c.as_bytes-bytes.ensures.value, take_rest text end) at c.in-Char.ensures.part in
    let lies = rw (c.as_bytes-bytes.ensures.value, take_rest text end) at c.in-Char.ensures.within in
    let low = rw (c.as_bytes-bytes.ensures.value, take_rest text end) at c.in-Char.ensures.ascii in
    record {
      cuts = part_end_cuts text end c.in-Char.len (char_bytes c.in-Char.meaning) c.utf8.text lies c.in_ok-at.ensures.within low;
      so_far = subst (λ l. SoFar false text c.args.from (end + c.in-Char.len) l) (sym c.in_ok-push_char-in-Char.ensures) (after_part false text c.args.from end _ (char_bytes c.in-Char.meaning) c.in-Char.len so_far is_there);
    }

pub returns-in-Closes-clause-found : goal.returns-in-Closes-clause-found
returns-in-Closes-clause-found c =
    let text = c.args.text.now in
    let end = c.in_ok-at.at in
    let plain = rw c.as_bytes-bytes.ensures.value at c.in_ok-at.ensures.end in
    let so_far = plain_more text c.args.from c.loop-string.at end _ (string_bytes c.push_plain.new.string) c.loop-string.invariant.so_far plain.0 plain.1 in
    at_close false text c.args.from end _ so_far (rw (c.as_bytes-bytes.ensures.value, take_rest text end) at c.in-Closes.ensures.part)

pub returns-in-Faulty-clause-found : goal.returns-in-Faulty-clause-found
returns-in-Faulty-clause-found c =
    let text = c.args.text.now in
    let end = c.in_ok-at.at in
    let plain = rw c.as_bytes-bytes.ensures.value at c.in_ok-at.ensures.end in
    let so_far = plain_more text c.args.from c.loop-string.at end _ (string_bytes c.push_plain.new.string) c.loop-string.invariant.so_far plain.0 plain.1 in
    let there = rw (c.as_bytes-bytes.ensures.value, take_rest text end) at c.in-Faulty.ensures.part in
    search (rules, sym (at_part false text c.args.from end (string_bytes c.push_plain.new.string) (faulty (cause_of c.in-Faulty.cause) c.in-Faulty.start c.in-Faulty.end) so_far there))

pub returns-then-at-bytes-clause-found : goal.returns-then-at-bytes-clause-found
returns-then-at-bytes-clause-found c =
    let text = c.args.text.now in
    let end = c.in_ok-at.at in
    let plain = rw c.as_bytes-bytes.ensures.value at c.in_ok-at.ensures.end in
    let so_far = plain_more text c.args.from c.loop-string.at end _ (string_bytes c.push_plain.new.string) c.loop-string.invariant.so_far plain.0 plain.1 in
    search (rules, at_end false text c.args.from end (string_bytes c.push_plain.new.string) so_far (omega (arith, c.if-at-bytes.true, ap length c.as_bytes-bytes.ensures.value)))

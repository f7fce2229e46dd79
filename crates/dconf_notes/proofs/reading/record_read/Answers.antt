use Rattle.std.proofs.Common.{◌++◌, ap, sym, ◌∙◌}
use Rattle.dconf_notes.proofs.RecordLaws.{joined, too_short, too_long}
use Rattle.dconf_notes.proofs.reading.record_read.Goals as goal

pub returns-then-bytes-lt-NUMBERS_LEN-clause-none : goal.returns-then-bytes-lt-NUMBERS_LEN-clause-none
returns-then-bytes-lt-NUMBERS_LEN-clause-none c = λ none r more e. too_short c.args.bytes.now c.if-bytes-lt-NUMBERS_LEN.true r more e

pub returns-then-len-rest-clause-none : goal.returns-then-len-rest-clause-none
returns-then-len-rest-clause-none c = λ none r more e. too_long c.args.bytes.now c.split_at.result.0.now c.split_at-2.result.0.now c.split_at-3.result.0.now c.split_at-3.result.1.now
    c.number-len.result c.split_at.ensures.front_len c.split_at-2.ensures.front_len c.split_at-3.ensures.front_len
    (sym (ap (λ x. c.split_at.result.0.now ++ x) (ap (λ x. c.split_at-2.result.0.now ++ x) (joined _ _ _ 8 c.split_at-3.ensures.front c.split_at-3.ensures.back) ∙ joined _ _ _ 8 c.split_at-2.ensures.front c.split_at-2.ensures.back)
    ∙ joined _ _ _ 8 c.split_at.ensures.front c.split_at.ensures.back))
    c.number-len.ensures c.if-len-rest.true r more e

use Rattle.std.proofs.Common.{map, refl, arith}
use Rattle.dconf_notes.specs.Records.{noted_of}
use Rattle.dconf_notes.proofs.RecordLaws.{no_record, one_more, shorter, too_short}
use Rattle.dconf_notes.proofs.reading.records_read.Goals as goal

pub loop-rest-smaller : goal.loop-rest-smaller
loop-rest-smaller c = shorter (noted_of c.in-Some.note) c.in-Some.more.now c.loop-rest.rest.now c.in-Some.ensures.some

pub loop-rest-preserved : goal.loop-rest-preserved
loop-rest-preserved c =
    one_more c.loop-rest.notes.items c.in-Some.note c.push.new.self.items c.args.bytes.now c.loop-rest.rest.now c.in-Some.more.now c.in_ok-push-in-Some.ensures.items
    c.loop-rest.invariant c.in-Some.ensures.some

pub returns-in-None-clause-none : goal.returns-in-None-clause-none
returns-in-None-clause-none c = λ none. no_record (map noted_of c.loop-rest.notes.items) c.args.bytes.now c.loop-rest.rest.now c.loop-rest.invariant
    (λ e. omega (arith, c.loop-rest-test.true, e)) (c.in-None.ensures.none refl)

pub returns-then-rest-lt-NUMBER_LEN-clause-none : goal.returns-then-rest-lt-NUMBER_LEN-clause-none
returns-then-rest-lt-NUMBER_LEN-clause-none c = λ none. no_record (map noted_of c.loop-rest.notes.items) c.args.bytes.now c.loop-rest.rest.now c.loop-rest.invariant
    (λ e. omega (arith, c.if-rest-lt-NUMBER_LEN.true, e)) (too_short c.loop-rest.rest.now (omega (arith, c.if-rest-lt-NUMBER_LEN.true)))

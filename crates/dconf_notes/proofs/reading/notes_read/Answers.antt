use Rattle.std.proofs.Common.{◌≡◌, ◌++◌, length, map, refl, subst, IfSome}
use Rattle.dconf_notes.specs.Records.{noted_of, records_bytes}
use Rattle.dconf_notes.proofs.RecordLaws.{none_whole, none_read, no_title}
use Rattle.dconf_notes.proofs.reading.notes_read.Goals as goal

pub returns-in-Some-2-clause-none : goal.returns-in-Some-2-clause-none
returns-in-Some-2-clause-none c = λ none.
    (let read = subst (λ o. IfSome o (λ r. (c.in-Some.rest.now ≡ records_bytes (map noted_of r.0.items) ++ r.1.now) × (length r.1.now ≡ 8))) c.in-Some-2.is c.in_ok-notes.ensures.some in
    none_whole c.args.bytes.now c.in-Some.rest.now c.in-Some-2.end.now (map noted_of c.in-Some-2.notes.items) c.in-Some.ensures.some read.0 read.1 (c.headed.ensures.none none))

pub returns-in-None-2-clause-none : goal.returns-in-None-2-clause-none
returns-in-None-2-clause-none c = λ none. none_read c.args.bytes.now c.in-Some.rest.now c.in-Some.ensures.some (c.in_ok-notes.ensures.none c.in-None-2.is)

pub returns-in-None-clause-none : goal.returns-in-None-clause-none
returns-in-None-clause-none c = λ none. no_title c.args.bytes.now (c.in-None.ensures.none refl)

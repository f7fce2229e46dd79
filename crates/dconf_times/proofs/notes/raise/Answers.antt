use Rattle.std.proofs.Common.{◌<◌, List, map, sym, ◌∙◌, subst, length, arith}
use Rattle.dconf_model.proofs.SameBytes.{same_path}
use Rattle.dconf_times.specs.declared.times.DconfdbTime.{DconfdbTime}
use Rattle.dconf_times.specs.Noted.{IsAdded}
use Rattle.dconf_times.specs.Times.{note_of}
use Rattle.dconf_times.proofs.PutLaws.{raised}
use Rattle.dconf_times.proofs.notes.raise.Goals as goal

pub returns-then-eq-clause-raised : goal.returns-then-eq-clause-raised
returns-then-eq-clause-raised c = λ is most.
    let inside : c.loop-at.at < length c.loop-at.kept = omega (arith, c.loop-at-test.true, c.loop-at.auto.kept) in
    subst (λ (ts : List DconfdbTime). IsAdded most (note_of c.args.time) (map note_of ts) (map note_of c.put_later.new.kept)) c.loop-at.invariant
    (raised most c.loop-at.kept c.loop-at.at c.args.time _ (map note_of c.put_later.new.kept) c.put_later.ensures.put inside (same_path _ _ (sym c.eq.ensures ∙ c.if-eq.true)))

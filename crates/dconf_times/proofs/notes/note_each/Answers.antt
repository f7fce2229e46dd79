use Rattle.std.proofs.Common.{List, map, ap, subst, drop, ◌+◌}
use Rattle.dconf_times.specs.Noted.{AreAdded}
use Rattle.dconf_times.specs.Times.{Note, note_of}
use Rattle.dconf_times.proofs.PutLaws.{none_left, step_added, step_unknown}
use Rattle.dconf_times.proofs.notes.note_each.Goals.{then-time-now+in_ok-note, else-time-now}
use Rattle.dconf_times.proofs.notes.note_each.Goals as goal

pub loop-time-preserved : goal.loop-time-preserved
loop-time-preserved c = λ last adds.
    c.loop-time.invariant last (elim c.if-time-now.branch [
      | then-time-now+in_ok-note w ↦ step_added c.args.now c.args.most c.args.times.now c.loop-time.time-index _ (map note_of c.loop-time.kept.items) (map note_of w.note.new.kept.items) last
          c.loop-time-test.true w.if-time-now.true w.in_ok-note.ensures
          (subst (λ (ns : List Note). AreAdded c.args.now c.args.most (map note_of (drop (c.loop-time.time-index + 1) c.args.times.now)) ns last) (ap (λ v. map note_of v.items) w.kept-is) adds)
      | else-time-now w ↦ step_unknown c.args.now c.args.most c.args.times.now c.loop-time.time-index _ (map note_of c.loop-time.kept.items) last
          c.loop-time-test.true w.if-time-now.false
          (subst (λ (ns : List Note). AreAdded c.args.now c.args.most (map note_of (drop (c.loop-time.time-index + 1) c.args.times.now)) ns last) (ap (λ v. map note_of v.items) w.kept-is) adds)
    ])

pub returns : goal.returns
returns c = c.loop-time.invariant (map note_of c.loop-time.kept.items) (none_left c.args.now c.args.most c.args.times.now c.loop-time.time-index (map note_of c.loop-time.kept.items) c.loop-time-test.false)

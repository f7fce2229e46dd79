use Rattle.std.proofs.Common.{◌≡◌, ◌⊎◌, ◌∙◌, ◌+◌, ◌-◌, ◌/◌, true, inl, sym, ap, subst, arith}
use Rattle.dconf_times.specs.Room.{has_room, has_room_since}
use Rattle.dconf_times.proofs.RoomLaws.{no_room_before}
use Rattle.dconf_times.proofs.room.least.Goals.{then-has_room, else-has_room}
use Rattle.dconf_times.proofs.room.least.Goals as goal

pub loop-low-preserved : goal.loop-low-preserved
loop-low-preserved c =
    let most = c.args.most in
    let bytes = c.args.most_bytes in
    let notes = c.args.notes.now in
    let middle = c.loop-low.low + (c.loop-low.high - c.loop-low.low) / 2 in
    let found : has_room_since most bytes notes middle ≡ c.has_room.result = ap (has_room most bytes) (sym (c.as_slice.ensures.value ∙ c.in_ok-kept.ensures)) ∙ sym c.has_room.ensures in
    elim c.if-has_room.branch [
      | then-has_room w ↦ record {
        order = omega (arith, w.low-is, w.high-is);
        least = λ sooner lt. c.loop-low.invariant.least sooner (omega (arith, w.low-is, lt));
        room = inl (subst (λ h. has_room_since most bytes notes h ≡ true) (sym w.high-is) (found ∙ w.if-has_room.true));
      }
      | else-has_room w ↦ record {
        order = omega (arith, w.low-is, w.high-is, c.loop-low-test.true);
        least = λ sooner lt. no_room_before most bytes notes sooner middle (omega (arith, w.low-is, lt)) (found ∙ w.if-has_room.false);
        room = subst (λ h. (has_room_since most bytes notes h ≡ true) ⊎ (h ≡ 0xffff_ffff_ffff_ffff)) (sym w.high-is) c.loop-low.invariant.room;
      }
    ]

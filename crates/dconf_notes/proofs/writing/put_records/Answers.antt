use Rattle.dconf_notes.proofs.RoomLaws.{loop_put, one_fits, place_fits}
use Rattle.dconf_notes.proofs.writing.put_records.Goals as goal

pub split_at_mut-rest-requires : goal.split_at_mut-rest-requires
split_at_mut-rest-requires c =
    place_fits c.args.notes.now c.loop-note.note-index c.loop-note.at c.loop-note.room c.args.room.now c.loop-note.invariant.1 c.loop-note.auto.room c.requires

pub put_record-at-requires : goal.put_record-at-requires
put_record-at-requires c =
    one_fits c.args.notes.now c.loop-note.note-index c.loop-note.at _ c.loop-note.room c.args.room.now c.split_at_mut-rest.result.1.now c.loop-note-test.true c.loop-note.invariant.1 c.loop-note.auto.room c.requires
    c.split_at_mut-rest.ensures.back

pub loop-note-preserved : goal.loop-note-preserved
loop-note-preserved c =
    loop_put c.args.notes.now c.loop-note.note-index _ c.args.room.now c.loop-note.room c.split_at_mut-rest.result.0.now c.split_at_mut-rest.result.1.now c.put_record-at.new.room c.loop-note.at c.put_record-at.result
    c.loop-note-test.true c.loop-note.invariant.0 c.loop-note.invariant.1 c.split_at_mut-rest.ensures.front c.split_at_mut-rest.ensures.back c.put_record-at.ensures.len c.put_record-at.ensures.put

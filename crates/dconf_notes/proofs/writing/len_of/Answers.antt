use Rattle.std.proofs.Common.{◌∙◌, sym}
use Rattle.dconf_notes.proofs.RoomLaws.{counted, counted_more, some_notes}
use Rattle.dconf_notes.proofs.writing.len_of.Goals as goal

pub loop-note-preserved : goal.loop-note-preserved
loop-note-preserved c =
    counted_more c.args.notes.now c.loop-note.note-index _ c.loop-note.len c.in_ok-len.len c.loop-note-test.true c.loop-note.invariant c.in_ok-len.ensures

pub returns : goal.returns
returns c =
    counted c.args.notes.now c.loop-note.note-index c.loop-note.len (some_notes c.args.notes.now (sym c.is_empty.ensures ∙ c.if-is_empty.false)) c.loop-note-test.false c.loop-note.invariant

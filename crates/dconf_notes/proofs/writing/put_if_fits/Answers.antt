use Rattle.std.proofs.Common.{arith, sym, length}
use Rattle.std.proofs.lemmas.Bool.{ltb-true}
use Rattle.dconf_notes.proofs.RoomLaws.{file_length, handed_out}
use Rattle.dconf_notes.proofs.writing.put_if_fits.Goals as goal

pub put_file-requires : goal.put_file-requires
put_file-requires c =
    let item = c.in-Some.ensures.item in omega (arith, c.requires, c.if-len-room.false, file_length c.args.notes.now (ltb-true 0 (length c.args.notes.now) (sym item.0)))

pub returns-in-Some : goal.returns-in-Some
returns-in-Some c =
    let item = c.in-Some.ensures.item in
    handed_out c.args.notes.now c.in-Some.head.now c.args.room.now c.put_file.new.room c.args.len (ltb-true 0 (length c.args.notes.now) (sym item.0)) item.1 c.requires c.if-len-room.false c.put_file.ensures

use Rattle.dconf_notes.proofs.RoomLaws.{number_put}
use Rattle.dconf_notes.proofs.writing.put_number.Goals as goal

pub returns : goal.returns
returns c = number_put c.args.number c.args.room.now c.write_u64.new.buf (c.ranges.number.fits) c.write_u64.ensures

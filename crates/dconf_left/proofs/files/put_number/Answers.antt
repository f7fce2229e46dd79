use Rattle.dconf_left.proofs.NumberLaws.{put_is}
use Rattle.dconf_left.proofs.files.put_number.Goals as goal

pub returns : goal.returns
returns c = put_is c.args.number c.args.at c.args.room.now c.write_u64.new.buf (c.ranges.number.fits) c.requires c.write_u64.ensures

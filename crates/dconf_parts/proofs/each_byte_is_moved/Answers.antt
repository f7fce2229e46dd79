use Rattle.dconf_parts.proofs.MovingLaws.{each_byte_is_moved}
use Rattle.dconf_parts.proofs.each_byte_is_moved.Goals as goal

pub returns : goal.returns
returns c = each_byte_is_moved

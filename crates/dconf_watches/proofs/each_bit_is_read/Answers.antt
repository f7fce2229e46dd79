use Rattle.dconf_watches.proofs.BitProofs.{each_bit_is_read}
use Rattle.dconf_watches.proofs.each_bit_is_read.Goals as goal

pub returns : goal.returns
returns c = each_bit_is_read

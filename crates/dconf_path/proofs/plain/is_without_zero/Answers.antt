use Rattle.dconf_path.proofs.Blocks.{none_equal}
use Rattle.dconf_path.proofs.plain.is_without_zero.Goals as goal

pub returns : goal.returns
returns c = none_equal c.args.bytes.now c.args.i c.requires 0

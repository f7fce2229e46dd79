use Rattle.dconf_path.proofs.Blocks.{none_high}
use Rattle.dconf_path.proofs.plain.is_ascii_block.Goals as goal

pub returns : goal.returns
returns c = none_high c.args.bytes.now c.args.i c.requires

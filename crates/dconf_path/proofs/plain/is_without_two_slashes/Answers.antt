use Rattle.dconf_path.proofs.Blocks.{none_twice}
use Rattle.dconf_path.proofs.plain.is_without_two_slashes.Goals as goal

pub returns : goal.returns
returns c = none_twice c.args.bytes.now c.args.i c.requires

use Rattle.std.proofs.Common.{◌∙◌}
use Rattle.dconf_model.specs.Bytes.{u16_at}
use Rattle.gvdb_format.proofs.Numbers.{number_there}
use Rattle.gvdb_format.proofs.little_endian.read_u16.Goals as goal

pub returns : goal.returns
unfolding u16_at
returns c = c.read_u16.ensures ∙ number_there c.args.file.now c.args.at 2 c.requires

use Rattle.std.proofs.Common.{◌∙◌}
use Rattle.dconf_model.specs.Bytes.{u32_at}
use Rattle.gvdb_format.proofs.Numbers.{number_there}
use Rattle.gvdb_format.proofs.little_endian.read_u32.Goals as goal

pub returns : goal.returns
unfolding u32_at
returns c = c.read_u32.ensures ∙ number_there c.args.file.now c.args.at 4 c.requires

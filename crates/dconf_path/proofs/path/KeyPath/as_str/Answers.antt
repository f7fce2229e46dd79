use Rattle.std.proofs.Common.{rules}
use Rattle.dconf_path.proofs.path.KeyPath.as_str.Goals as goal

pub returns : goal.returns
returns c = search rules

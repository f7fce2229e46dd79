use Rattle.std.proofs.Common.{rules}
use Rattle.dconf_path.proofs.profiles.Profile.databases.Goals as goal

pub returns : goal.returns
returns c = search rules

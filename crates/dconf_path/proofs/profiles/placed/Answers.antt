use Rattle.std.proofs.Common.{rules}
use Rattle.dconf_path.proofs.profiles.placed.Goals as goal

pub returns-clause-found : goal.returns-clause-found
returns-clause-found c = search rules

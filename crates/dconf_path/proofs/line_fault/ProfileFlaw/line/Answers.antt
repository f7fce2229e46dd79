use Rattle.std.proofs.Common.{rules}
use Rattle.dconf_path.proofs.line_fault.ProfileFlaw.line.Goals as goal

pub returns-in-TooMany : goal.returns-in-TooMany
returns-in-TooMany c = search rules

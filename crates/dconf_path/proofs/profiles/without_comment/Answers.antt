use Rattle.std.proofs.Common.{rules}
use Rattle.dconf_path.proofs.profiles.without_comment.Goals as goal

pub returns-in-Some : goal.returns-in-Some
returns-in-Some c = search rules

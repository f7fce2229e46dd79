use Rattle.std.proofs.Common.{rules}
use Rattle.dconf_path.proofs.lock_path.LockPath.as_str.Goals as goal

pub returns-in-Directory : goal.returns-in-Directory
returns-in-Directory c = search rules

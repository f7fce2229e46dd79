use Rattle.std.proofs.Common.{rules}
use Rattle.dconf_folders.proofs.fault.FolderFaultDisplay.fmt.Goals as goal

pub returns-clause-writes : goal.returns-clause-writes
returns-clause-writes g c = search rules

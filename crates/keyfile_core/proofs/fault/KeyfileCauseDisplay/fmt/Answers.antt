use Rattle.std.proofs.Common.{rules}
use Rattle.keyfile_core.proofs.fault.KeyfileCauseDisplay.fmt.Goals as goal

pub returns : goal.returns
returns c = search rules

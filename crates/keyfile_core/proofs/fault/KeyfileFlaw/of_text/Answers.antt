use Rattle.std.proofs.Common.{rules}
use Rattle.keyfile_core.proofs.fault.KeyfileFlaw.of_text.Goals as goal

pub returns-in-TooBig : goal.returns-in-TooBig
returns-in-TooBig c = search rules

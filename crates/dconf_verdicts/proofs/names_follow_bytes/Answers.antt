use Rattle.dconf_verdicts.proofs.BroughtLaws.{names_follow_bytes}
use Rattle.dconf_verdicts.proofs.names_follow_bytes.Goals as goal

pub returns : goal.returns
returns c = names_follow_bytes

use Rattle.dconf_seen.proofs.ReadingLaws.{read_is_found}
use Rattle.dconf_seen.proofs.read_is_found.Goals as goal

pub returns : goal.returns
returns c = read_is_found

use Rattle.dconf_seen.proofs.AllowedLaws.{edits_are_allowed}
use Rattle.dconf_seen.proofs.edits_are_allowed.Goals as goal

pub returns : goal.returns
returns c = edits_are_allowed

use Rattle.dconf_seen.proofs.SeenLaws.{changed_keys_are_asked}
use Rattle.dconf_seen.proofs.changed_keys_are_asked.Goals as goal

pub returns : goal.returns
returns c = changed_keys_are_asked

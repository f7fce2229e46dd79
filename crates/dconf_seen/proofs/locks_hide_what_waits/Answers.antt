use Rattle.dconf_seen.proofs.SeenLaws.{locks_hide_what_waits}
use Rattle.dconf_seen.proofs.locks_hide_what_waits.Goals as goal

pub returns : goal.returns
returns c = locks_hide_what_waits

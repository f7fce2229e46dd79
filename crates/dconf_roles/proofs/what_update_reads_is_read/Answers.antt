use Rattle.dconf_roles.proofs.RoleLaws.{what_update_reads_is_read}
use Rattle.dconf_roles.proofs.what_update_reads_is_read.Goals as goal

pub returns : goal.returns
returns c = what_update_reads_is_read

use Rattle.std.proofs.Common.{refl, sym}
use Rattle.dconf_by_name.proofs.PathFaults.{directory_faultless}
use Rattle.dconf_by_name.proofs.paths.directory_fault.Goals as goal

pub returns-in-Ok : goal.returns-in-Ok
returns-in-Ok c = sym (directory_faultless c.args.text.now (c.in-Ok.ensures.accepts.0 refl))

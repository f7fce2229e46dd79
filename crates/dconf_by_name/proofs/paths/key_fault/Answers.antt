use Rattle.std.proofs.Common.{refl, sym}
use Rattle.dconf_by_name.proofs.PathFaults.{key_faultless}
use Rattle.dconf_by_name.proofs.paths.key_fault.Goals as goal

pub returns-in-Ok : goal.returns-in-Ok
returns-in-Ok c = sym (key_faultless c.args.text.now (c.in-Ok.ensures.accepts.0 refl))

use Rattle.dconf_made.proofs.MadeLaws.{either_same}
use Rattle.dconf_made.proofs.changed.compared.Goals as goal

pub returns-in-Ok-clause-same : goal.returns-in-Ok-clause-same
returns-in-Ok-clause-same c =
    either_same _ c.args.changes.now c.in-Ok.are c.is_either-is_same.result c.as_slice.result.now c.args.file.items c.args.old.now
    c.as_slice.ensures.value c.in-Ok.ensures.made c.is_either-is_same.ensures

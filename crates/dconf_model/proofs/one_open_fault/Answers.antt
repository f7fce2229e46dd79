use Rattle.dconf_model.proofs.OpenLaws.{no_database, one_fault}
use Rattle.dconf_model.proofs.one_open_fault.Goals as goal

pub returns : goal.returns
returns c file f g h = (no_database file f h, one_fault file f g h)

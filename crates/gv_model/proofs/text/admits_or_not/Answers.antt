use Rattle.gv_model.proofs.AdmitsDecided.{admits_or_not}
use Rattle.gv_model.proofs.text.admits_or_not.Goals as goal

pub returns : goal.returns
returns c = admits_or_not

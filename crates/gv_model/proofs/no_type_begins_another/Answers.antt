use Rattle.gv_model.proofs.TypeTextLaws.{one_reading}
use Rattle.gv_model.proofs.no_type_begins_another.Goals as goal

pub returns : goal.returns
returns c = one_reading

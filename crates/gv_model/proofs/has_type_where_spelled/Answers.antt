use Rattle.gv_model.proofs.TypeTextSound.{type_where_spelled}
use Rattle.gv_model.proofs.has_type_where_spelled.Goals as goal

pub returns : goal.returns
returns c = type_where_spelled

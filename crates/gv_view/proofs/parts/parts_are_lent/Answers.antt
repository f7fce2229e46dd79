use Rattle.gv_view.proofs.PartLemmas.{parts_lent}
use Rattle.gv_view.proofs.parts.parts_are_lent.Goals as goal

pub returns : goal.returns
returns c = parts_lent

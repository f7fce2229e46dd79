use Rattle.gv_model.proofs.EarlierChildren.{earlier_children, only_earlier_reading}
use Rattle.gv_model.proofs.one_earlier_reading.Goals as goal

pub returns : goal.returns
returns c = record { reads = earlier_children; alone = only_earlier_reading }

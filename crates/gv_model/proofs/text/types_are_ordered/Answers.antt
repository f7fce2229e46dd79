use Rattle.gv_model.proofs.TypeOrder.{below_itself, below_third, below_same}
use Rattle.gv_model.proofs.text.types_are_ordered.Goals as goal

pub returns : goal.returns
returns c = record { reflexive = below_itself; transitive = below_third; antisymmetric = below_same }

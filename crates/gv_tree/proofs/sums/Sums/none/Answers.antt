use Rattle.std.proofs.Common.{refl}
use Rattle.gv_tree.proofs.SumLaws.{sums_of_none}
use Rattle.gv_tree.proofs.sums.Sums.none.Goals as goal

pub returns : goal.returns
returns c = sums_of_none 0 0 0 0 refl refl refl refl

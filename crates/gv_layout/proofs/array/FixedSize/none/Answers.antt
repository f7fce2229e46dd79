use Rattle.std.proofs.Common.{refl}
use Rattle.gv_model.specs.Arrays.{fixed_spans}
use Rattle.gv_layout.proofs.array.FixedSize.none.Goals as goal

pub returns : goal.returns
unfolding fixed_spans
returns c = refl

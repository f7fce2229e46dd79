use Rattle.std.proofs.Common.{refl}
use Rattle.gv_types.proofs.steps.Steps.new.Goals as goal

pub returns : goal.returns
returns c = refl

use Rattle.gv_layout.proofs.Numbers.{truth_number}
use Rattle.gv_layout.proofs.truth.is_true.Goals as goal

pub returns : goal.returns
returns c = truth_number c.args.bytes.now c.requires

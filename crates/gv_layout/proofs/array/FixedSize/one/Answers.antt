use Rattle.gv_types.specs.TypeStr.{ty}
use Rattle.gv_layout.proofs.Elements.{fixed-one}
use Rattle.gv_layout.proofs.array.FixedSize.one.Goals as goal

pub returns : goal.returns
returns c = fixed-one (ty c.args.element) c.args.len c.args.to

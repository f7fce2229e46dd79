use Rattle.gv_types.specs.TypeStr.{ty}
use Rattle.gv_layout.proofs.Elements.{fixed-passed}
use Rattle.gv_layout.proofs.array.FixedSize.skip.Goals as goal

pub returns : goal.returns
returns c = fixed-passed (ty c.args.self.element) c.args.self.len c.args.self.size c.args.self.at c.args.self.left c.args.i c.min-passed.result c.min-passed.ensures

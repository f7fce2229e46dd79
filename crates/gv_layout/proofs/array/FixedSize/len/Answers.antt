use Rattle.std.proofs.Common.{sym}
use Rattle.gv_types.specs.TypeStr.{ty}
use Rattle.gv_layout.proofs.Elements.{fixed-length}
use Rattle.gv_layout.proofs.array.FixedSize.len.Goals as goal

pub returns : goal.returns
returns c = sym (fixed-length (ty c.args.self.element) c.args.self.len c.args.self.size c.args.self.at c.args.self.left)

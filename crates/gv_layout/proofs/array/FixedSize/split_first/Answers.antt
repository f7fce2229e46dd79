use Rattle.std.proofs.Common.{arith}
use Rattle.gv_types.specs.TypeStr.{ty}
use Rattle.gv_layout.proofs.Elements.{fixed-none, fixed-next}
use Rattle.gv_layout.proofs.array.FixedSize.split_first.Goals as goal

pub returns-in_err-left : goal.returns-in_err-left
returns-in_err-left c =
    rw c.from_residual.ensures (fixed-none (ty c.args.self.element) c.args.self.len c.args.self.size c.args.self.at c.args.self.left (omega (arith, c.in_err-left.ensures)))

pub returns : goal.returns
returns c = fixed-next (ty c.args.self.element) c.args.self.len c.args.self.size c.args.self.at c.args.self.left c.in_ok-left.left c.in_ok-left.ensures c.args.self.inside

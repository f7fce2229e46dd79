use Rattle.std.proofs.Common.{sym}
use Rattle.gv_types.specs.TypeStr.{ty}
use Rattle.gv_layout.proofs.Elements.{by_offsets-length}
use Rattle.gv_layout.proofs.array.ByOffsets.len.Goals as goal

pub returns : goal.returns
returns c =
    let self = c.args.self in
    sym (by_offsets-length (ty self.element) self.len self.body self.width self.left self.previous self.offsets.now)

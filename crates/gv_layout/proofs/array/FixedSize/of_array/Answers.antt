use Rattle.std.proofs.Common.{inl, inr}
use Rattle.gv_types.specs.TypeStr.{ty}
use Rattle.gv_model.proofs.EmptyLaws.{fixed_size_pos}
use Rattle.gv_layout.proofs.Cuts.{even_array}
use Rattle.gv_layout.proofs.array.FixedSize.of_array.Goals.{then-len-size-eq0, else-len-size-eq0}
use Rattle.gv_layout.proofs.array.FixedSize.of_array.Goals as goal

pub nonzero_rem-len : goal.nonzero_rem-len
nonzero_rem-len c = fixed_size_pos (ty c.args.element) c.args.size c.requires

pub nonzero_div-left : goal.nonzero_div-left
nonzero_div-left c = fixed_size_pos (ty c.args.element) c.args.size c.requires

pub returns : goal.returns
returns c =
    even_array (ty c.args.element) c.args.bytes.now c.args.size c.if-len-size-eq0.left
    (elim c.if-len-size-eq0.branch [ then-len-size-eq0 w ↦ inl (w.if-len-size-eq0.true, w.left-is) | else-len-size-eq0 w ↦ inr (w.if-len-size-eq0.false, w.left-is) ])

use Rattle.std.proofs.Common.{length, ap, ◌∙◌, arith}
use Rattle.gv_model.specs.Layout.{alignment}
use Rattle.gv_model.proofs.LayoutLaws.{alignment_pos}
use Rattle.gv_types.specs.TypeStr.{ty}
use Rattle.gv_layout.specs.Places.{clamp}
use Rattle.gv_layout.proofs.Alike.{alike_round_up}
use Rattle.gv_layout.proofs.walk.begin.Goals as goal

pub returns : goal.returns
returns c =
    let n = length c.args.bytes.now in
    let t = ty c.args.member in
    ap (clamp n) c.aligned_after.ensures ∙ alike_round_up n (alignment t) c.min.result c.args.previous (alignment_pos t) (omega (arith, c.min.ensures))

use Rattle.std.proofs.Common.{ap, ◌∙◌, arith}
use Rattle.gv_layout.specs.Places.{clamp}
use Rattle.gv_layout.proofs.Alike.{alike_round_up}
use Rattle.gv_layout.proofs.walk.aligned.Goals as goal

pub returns : goal.returns
returns c =
    ap (clamp c.args.len) c.round_up.ensures.rounded
    ∙ alike_round_up c.args.len c.args.alignment c.min.result c.args.from c.requires.some (omega (arith, c.min.ensures))

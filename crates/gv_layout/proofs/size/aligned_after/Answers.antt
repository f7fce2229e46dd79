use Rattle.std.proofs.Common.{sym, ap, ◌∙◌, arith}
use Rattle.gv_model.specs.Layout.{alignment, round_up}
use Rattle.gv_model.proofs.LayoutLaws.{alignment_pos, round_up-zero}
use Rattle.gv_types.specs.TypeStr.{ty}
use Rattle.gv_layout.proofs.Sizes.{alignment_most}
use Rattle.gv_layout.proofs.size.aligned_after.Goals as goal

pub returns-then-end-eq0 : goal.returns-then-end-eq0
returns-then-end-eq0 c =
    let a = alignment (ty c.args.of) in
    sym (ap (round_up a) c.if-end-eq0.true ∙ round_up-zero a (alignment_pos (ty c.args.of)))

pub round_up-requires-clause-aligned : goal.round_up-requires-clause-aligned
round_up-requires-clause-aligned c = omega (arith, c.alignment.ensures, alignment_pos (ty c.args.of))

pub round_up-requires-clause-fits : goal.round_up-requires-clause-fits
round_up-requires-clause-fits c = omega (arith, c.alignment.ensures, alignment_most (ty c.args.of), c.requires)

pub returns : goal.returns
returns c = c.round_up.ensures.rounded ∙ ap (λ a. round_up a c.args.end) c.alignment.ensures

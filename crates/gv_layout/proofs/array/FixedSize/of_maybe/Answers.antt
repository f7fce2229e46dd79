use Rattle.std.proofs.Common.{◌∙◌}
use Rattle.gv_types.specs.TypeStr.{ty}
use Rattle.gv_layout.proofs.Cuts.{no_just}
use Rattle.gv_layout.proofs.array.FixedSize.of_maybe.Goals as goal

pub returns-then-len-eq0 : goal.returns-then-len-eq0
returns-then-len-eq0 c = c.none.ensures ∙ no_just (ty c.args.child) c.args.len c.if-len-eq0.true

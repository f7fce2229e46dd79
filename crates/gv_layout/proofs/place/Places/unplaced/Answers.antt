use Rattle.std.proofs.Common.{sym, ap, ◌∙◌}
use Rattle.gv_layout.specs.Places.{unplaced_in}
use Rattle.gv_layout.proofs.place.Places.unplaced.Goals as goal

pub returns-in-ByMembers-clause-types : goal.returns-in-ByMembers-clause-types
returns-in-ByMembers-clause-types c = c.unplaced.ensures.types ∙ ap unplaced_in (sym c.in-ByMembers.is)

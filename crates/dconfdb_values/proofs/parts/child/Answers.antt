use Rattle.std.proofs.Common.{ap, ◌∙◌}
use Rattle.std.specs.Prelude.{option_map}
use Rattle.dconfdb_values.specs.Parts.{part_value}
use Rattle.dconfdb_values.proofs.PartLaws.{nothing_at}
use Rattle.dconfdb_values.proofs.parts.child.Goals as goal

pub returns-in_err-view-clause-value : goal.returns-in_err-view-clause-value
returns-in_err-view-clause-value c = ap (option_map part_value) c.from_residual.ensures ∙ nothing_at _ c.args.index c.in_err-view.ensures.nothing

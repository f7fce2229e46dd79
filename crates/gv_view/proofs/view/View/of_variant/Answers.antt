use Rattle.std.proofs.Common.{ap, ◌∙◌}
use Rattle.gv_model.specs.Ty.Ty.{variant}
use Rattle.gv_types.specs.TypeStr.{ty}
use Rattle.gv_view.proofs.PartLemmas.{lent_tree}
use Rattle.gv_view.proofs.VariantLemmas.{held_is_lent, unit_is_lent}
use Rattle.gv_view.proofs.view.View.of_variant.Goals as goal

pub returns-in-Some-clause-lends : goal.returns-in-Some-clause-lends
returns-in-Some-clause-lends c = held_is_lent c.args.bytes.now c.in-Some.held c.in-Some.ensures

pub returns-in-Some-clause-value : goal.returns-in-Some-clause-value
returns-in-Some-clause-value c = lent_tree variant c.args.bytes.now 0 c.in-Some.held (held_is_lent c.args.bytes.now c.in-Some.held c.in-Some.ensures)

pub returns-in-None-clause-lends : goal.returns-in-None-clause-lends
returns-in-None-clause-lends c = unit_is_lent c.args.bytes.now c.new.result c.in-None.ensures (ap ty c.new.ensures.type_str ∙ c.unit_type.ensures) c.new.ensures.bytes

pub returns-in-None-clause-value : goal.returns-in-None-clause-value
returns-in-None-clause-value c =
    lent_tree variant c.args.bytes.now 0 c.new.result
    (unit_is_lent c.args.bytes.now c.new.result c.in-None.ensures (ap ty c.new.ensures.type_str ∙ c.unit_type.ensures) c.new.ensures.bytes)

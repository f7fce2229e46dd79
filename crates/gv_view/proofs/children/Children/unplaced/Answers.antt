use Rattle.std.proofs.Common.{sym, ap, ◌∙◌}
use Rattle.std.proofs.lemmas.Option.{IfSome_then}
use Rattle.gv_model.specs.Ty.{types_from}
use Rattle.gv_model.specs.Parts.{part_trees}
use Rattle.gv_types.specs.Members.{members_left}
use Rattle.gv_layout.specs.Places.{places_left}
use Rattle.gv_view.specs.Children.{unplaced_parts, parts_left}
use Rattle.gv_view.proofs.UnplacedParts.{placed_values}
use Rattle.gv_view.proofs.children.Children.unplaced.Goals as goal

pub returns-in-Placed-clause-types : goal.returns-in-Placed-clause-types
returns-in-Placed-clause-types c = c.unplaced.ensures.types ∙ ap unplaced_parts (sym c.in-Placed.is)

pub returns-in-Placed-clause-defaults : goal.returns-in-Placed-clause-defaults
returns-in-Placed-clause-defaults c =
    let placed = c.in-Placed.placed in
    IfSome_then c.unplaced.result c.unplaced.ensures.nowhere (λ ms e. ap (λ w. part_trees (parts_left w)) c.in-Placed.is ∙ placed_values placed.bytes.now (places_left placed.places) (types_from (members_left ms)) e)

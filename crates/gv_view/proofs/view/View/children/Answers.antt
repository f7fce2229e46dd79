use Rattle.std.proofs.Common.{sym, ap, subst, length, ◌∙◌}
use Rattle.std.specs.Prelude.{All}
use Rattle.gv_types.proofs.ClassLaws.{variant_class}
use Rattle.gv_layout.specs.Places.{places_left}
use Rattle.gv_view.specs.Views.{view_ty, view_bytes}
use Rattle.gv_model.specs.Laws.{LiesWithin}
use Rattle.gv_view.specs.Children.{parts_left}
use Rattle.gv_view.proofs.ChildPlaces.{cut_within, variant_parts, placed_parts}
use Rattle.gv_view.proofs.view.View.children.Goals as goal
use Rattle.gv_view.proofs.view.View.children.Goals.{in-Variant, in_default}

pub invariant_of-walk : goal.invariant_of-walk
invariant_of-walk c =
    let b = view_bytes c.args.self in
    record { within = subst (All (LiesWithin (length b))) (sym c.places.ensures) (cut_within (view_ty c.args.self) b) }

pub returns : goal.returns
returns c =
    let t = view_ty c.args.self in
    let b = view_bytes c.args.self in
    elim c.match-class.branch [
      | in-Variant w ↦ ap parts_left w.walk-is ∙ variant_parts t b w.of_variant.result (variant_class t w.in-Variant.ensures) w.of_variant.ensures.lends
      | in_default w ↦ ap parts_left w.walk-is ∙ placed_parts t b (places_left w.places.result) w.places.ensures
    ]

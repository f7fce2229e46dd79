use Rattle.std.proofs.Common.{Some, None, sym, subst}
use Rattle.std.specs.Prelude.{slice_get}
use Rattle.gv_types.proofs.ClassLaws.{variant_class}
use Rattle.gv_model.proofs.PartLaws.{child_within}
use Rattle.gv_model.specs.Decode.{cut}
use Rattle.gv_layout.specs.Places.{child_of}
use Rattle.gv_view.specs.Views.{view_ty, view_bytes, Lends}
use Rattle.gv_view.proofs.ChildPlaces.{lent_child, lent_place, variant_alone}
use Rattle.gv_view.proofs.view.View.child.Goals as goal

pub returns-in_err-place-in_default : goal.returns-in_err-place-in_default
returns-in_err-place-in_default c =
    let t = view_ty c.args.self in
    let b = view_bytes c.args.self in
    let lends : Lends b (slice_get (cut t b) c.args.i) None = subst (λ o. Lends b o None) c.in_err-place-in_default.ensures tt in
    let child = lent_child t b c.args.i None lends in
    rw c.from_residual.ensures (record { some = child.some; lends = lends; value = child.value })

pub view_at-requires : goal.view_at-requires
view_at-requires c = child_within (view_ty c.args.self) (view_bytes c.args.self) c.args.i (child_of c.in_ok-place-in_default.place) (sym c.in_ok-place-in_default.ensures)

pub returns-in-Variant : goal.returns-in-Variant
returns-in-Variant c =
    let t = view_ty c.args.self in
    let b = view_bytes c.args.self in
    let e = variant_class t c.in-Variant.ensures in
    let lends : Lends b (slice_get (cut t b) c.args.i) (Some c.of_variant.result) = rw (e, c.if-i-eq0.true) c.of_variant.ensures.lends in
    let child = lent_child t b c.args.i (Some c.of_variant.result) lends in
    record { some = child.some; lends = lends; value = child.value }

pub returns-in-Variant-2 : goal.returns-in-Variant-2
returns-in-Variant-2 c =
    let t = view_ty c.args.self in
    let b = view_bytes c.args.self in
    let alone = variant_alone t b c.args.i (variant_class t c.in-Variant-2.ensures) c.if-i-eq0.false in
    let lends : Lends b (slice_get (cut t b) c.args.i) None = subst (λ o. Lends b o None) (sym alone) tt in
    let child = lent_child t b c.args.i None lends in
    record { some = child.some; lends = lends; value = child.value }

pub returns-in_ok-place-in_default : goal.returns-in_ok-place-in_default
returns-in_ok-place-in_default c =
    let t = view_ty c.args.self in
    let b = view_bytes c.args.self in
    let lends = lent_place t b c.args.i (child_of c.in_ok-place-in_default.place) c.view_at.result c.in_ok-place-in_default.ensures c.view_at.ensures in
    let child = lent_child t b c.args.i (Some c.view_at.result) lends in
    record { some = child.some; lends = lends; value = child.value }

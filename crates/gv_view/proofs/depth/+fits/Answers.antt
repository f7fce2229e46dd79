use Rattle.std.proofs.Common.{◌≡◌, ◌-◌, ◌<◌, nat_le, refl, sym, ap, ◌∙◌, arith, rules, eqb, length}
use Rattle.gv_model.specs.Tree.{depth}
use Rattle.gv_model.specs.Parts.{part_trees}
use Rattle.std.specs.Prelude.{IsTrue}
use Rattle.gv_types.specs.Classes.{class_of}
use Rattle.gv_types.specs.declared.class.Class.TheVariants as classes
use Rattle.gv_types.specs.TypeStr.{ty}
use Rattle.gv_view.specs.Views.{shown, value, view_ty, view_bytes}
use Rattle.gv_view.proofs.Alike.{all_alike, empty_fits_whole, head_fits, later_alike}
use Rattle.gv_view.specs.Children.{children_left}
use Rattle.gv_view.proofs.Depths.{no_fit, leaf_fits, whole_fits, one_too_deep, next_fits, none_left}
use Rattle.gv_view.proofs.PartValues.{basic_is_leaf, whole_depth}
use Rattle.gv_view.proofs.depth.+fits.Goals as goal

pub returns-then-levels-eq0 : goal.returns-then-levels-eq0
returns-then-levels-eq0 t c = no_fit (value c.args.view) c.args.levels c.if-levels-eq0.true

pub returns-then-is_basic : goal.returns-then-is_basic
returns-then-is_basic t c =
    let is = c.is_basic.ensures.0 c.if-is_basic.true in
    leaf_fits (value c.args.view) c.args.levels (basic_is_leaf (view_ty c.args.view) (view_bytes c.args.view) (is.0, sym (ap ty c.type_str.ensures) ∙ is.1)) c.if-levels-eq0.false

pub loop-child-init : goal.loop-child-init
loop-child-init t c =
    let left = children_left c.into_iter-child-iterator.result in
    let array : IsTrue c.eq-in_array.result → class_of (view_ty c.args.view) ≡ classes.Array = search rules in
    let all = ap children_left c.into_iter-child-iterator.ensures.into_iter_gives ∙ c.children-child-items.ensures in (
      tt,
      tt,
      whole_fits (value c.args.view) (part_trees left) c.args.levels c.if-levels-eq0.false (whole_depth (view_ty c.args.view) (view_bytes c.args.view) left all),
      all_alike (view_ty c.args.view) (view_bytes c.args.view) c.eq-in_array.result (c.args.levels - 1) left array all,
    )

pub returns-then-not-fits : goal.returns-then-not-fits
returns-then-not-fits t c =
    one_too_deep (value c.in-Some.child) (part_trees (children_left c.next.new.self)) (part_trees (children_left c.loop-child.child-iterator)) (c.args.levels - 1) (nat_le (depth (value c.args.view)) c.args.levels)
    (ap part_trees c.in-Some.ensures.steps) (sym c.fits.ensures ∙ c.if-not-fits.true) c.loop-child.invariant.2

pub loop-child-preserved : goal.loop-child-preserved
loop-child-preserved t c = (
  tt,
  tt,
  next_fits (value c.in-Some.child) (part_trees (children_left c.next.new.self)) (part_trees (children_left c.loop-child.child-iterator)) (c.args.levels - 1) (nat_le (depth (value c.args.view)) c.args.levels)
      (ap part_trees c.in-Some.ensures.steps) (sym c.fits.ensures ∙ c.if-not-fits.false) c.loop-child.invariant.2,
  later_alike c.eq-in_array.result c.loop-child.element_fits c.is_empty-in-loop-child.result _ (c.args.levels - 1) (shown c.in-Some.child) (children_left c.next.new.self) (children_left c.loop-child.child-iterator) c.in-Some.ensures.steps c.loop-child.invariant.3 refl
      (c.is_empty-in-loop-child.ensures ∙ ap (λ b. eqb (length b) 0) c.bytes-in-loop-child.ensures)
      (sym c.fits.ensures ∙ c.if-not-fits.false),
)

pub fits-requires : goal.fits-requires
fits-requires t c =
    let falls : c.args.levels - 1 < c.args.levels = omega (arith, c.if-levels-eq0.false) in
    (search (rules, falls), λ is. head_fits c.eq-in_array.result c.loop-child.element_fits (c.args.levels - 1) (shown c.in-Some.child) (children_left c.next.new.self) (children_left c.loop-child.child-iterator) c.in-Some.ensures.steps c.loop-child.invariant.3 is)

pub returns-then-is_empty : goal.returns-then-is_empty
returns-then-is_empty t c =
    sym (empty_fits_whole (view_ty c.args.view) (view_bytes c.args.view) c.args.levels (ap (λ b. eqb (length b) 0) (sym c.bytes.ensures) ∙ (sym c.is_empty.ensures ∙ c.if-is_empty.true)) (c.requires c.if-empty_fits.true))

pub returns : goal.returns
returns t c = none_left (part_trees (children_left c.loop-child.child-iterator)) (c.args.levels - 1) (nat_le (depth (value c.args.view)) c.args.levels) (ap part_trees c.in-None.ensures.steps.0) c.loop-child.invariant.2

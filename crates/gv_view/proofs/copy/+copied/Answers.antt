use Rattle.std.proofs.Common.{◌≤◌, ◌<◌, ◌-◌, ◌++◌, ap, ◌∙◌, arith, rules}
use Rattle.std.specs.Prelude.{map}
use Rattle.std.proofs.lemmas.Result.{err_from_is_err_and}
use Rattle.refused.proofs.Faults.{OfFault-weaker}
use Rattle.gv_model.specs.Tree.{depth, children}
use Rattle.gv_tree.specs.Nodes.{trees_of}
use Rattle.gv_view.specs.Views.{view_ty, view_bytes, value, shown}
use Rattle.gv_view.specs.declared.owned.TooLarge.{TooLarge}
use Rattle.gv_view.specs.Children.{children_left}
use Rattle.gv_view.proofs.Depths.{depth_children}
use Rattle.gv_view.proofs.PartValues.{part_value, all_listed, all_lower, whole_depth, first_lower, first_depth, fitting, one_more}
use Rattle.gv_view.proofs.copy.+copied.Goals as goal
use Rattle.gv_view.proofs.Copies.{always_ok}

pub returns-then-levels-eq0-clause-fault : goal.returns-then-levels-eq0-clause-fault
returns-then-levels-eq0-clause-fault t c = omega (arith, c.if-levels-eq0.true, depth_children (value c.args.view))

pub loop-child-init : goal.loop-child-init
loop-child-init t c =
    let left = children_left c.into_iter-child-iterator.result in
    let all = ap children_left c.into_iter-child-iterator.ensures.into_iter_gives ∙ c.children-child-items.ensures in (
      tt,
      tt,
      all_lower (view_ty c.args.view) (view_bytes c.args.view) left all,
      (let whole = whole_depth (view_ty c.args.view) (view_bytes c.args.view) left all in omega (arith, whole)),
      ap (λ xs. trees_of (xs ++ map part_value left)) c.new-parts.ensures.items ∙ all_listed (view_ty c.args.view) (view_bytes c.args.view) left all,
    )

pub loop-child-preserved : goal.loop-child-preserved
loop-child-preserved t c =
    let part = shown c.in-Some.child in
    let left = children_left c.loop-child.child-iterator in
    let rest = children_left c.next.new.self in
    let low = first_lower part rest left (depth (value c.args.view)) c.in-Some.ensures.steps c.loop-child.invariant.2 in
    let both = first_depth part rest left c.in-Some.ensures.steps in
    let child : depth (part_value part) ≤ c.args.levels - 1 = c.in_ok-copied.ensures.fits in (
      tt,
      tt,
      low.1,
      omega (arith, both, child, c.loop-child.invariant.3),
      one_more c.loop-child.parts.items c.push.new.self.items c.in_ok-copied.field-0 part rest left (children (value c.args.view)) c.in_ok-push.ensures.items c.in_ok-copied.ensures.tree c.in-Some.ensures.steps c.loop-child.invariant.4,
    )

pub assembled-requires-clause-levels : goal.assembled-requires-clause-levels
assembled-requires-clause-levels t c = omega (arith, fitting c.args.levels (depth (value c.args.view)) (children_left c.loop-child.child-iterator) c.if-levels-eq0.false c.in-None.ensures.steps.0 c.loop-child.invariant.3, c.requires)

pub returns-clause-fits : goal.returns-clause-fits
returns-clause-fits t c =
    always_ok c.map_err.result (fitting c.args.levels (depth (value c.args.view)) (children_left c.loop-child.child-iterator) c.if-levels-eq0.false c.in-None.ensures.steps.0 c.loop-child.invariant.3)

pub returns-in_err-copied-clause-fault : goal.returns-in_err-copied-clause-fault
returns-in_err-copied-clause-fault t c =
    let p = err_from_is_err_and c.from_residual.result c.from_residual.ensures.1 in
    let low = first_lower (shown c.in-Some.child) (children_left c.next.new.self) (children_left c.loop-child.child-iterator) (depth (value c.args.view)) c.in-Some.ensures.steps c.loop-child.invariant.2 in
    rw (p.1, p.2) (OfFault-weaker {F = TooLarge} (λ _. c.args.levels - 1 < depth (part_value (shown c.in-Some.child))) (λ _. c.args.levels < depth (value c.args.view))
    (λ f deep. omega (arith, low.0, deep, c.if-levels-eq0.false)) _ c.in_err-copied.ensures.fault)

pub returns-clause-fault : goal.returns-clause-fault
returns-clause-fault t c = search rules

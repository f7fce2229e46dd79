use Rattle.std.proofs.Common.{◌≡◌, ap, sym, ◌∙◌, arith}
use Rattle.gv_model.specs.Parts.{parts}
use Rattle.gv_view.specs.Children.{children_left}
use Rattle.gv_view.specs.Views.{value, view_bytes, view_ty}
use Rattle.dconf_model.proofs.PathMaps.{no_truth}
use Rattle.dconf_differences.specs.declared.same_values.Compared.{Compared}
use Rattle.dconf_differences.proofs.SameValueLaws.{both_then, none_fewer, one_left, other_types, parts_left, some_nodes, work_left}
use Rattle.dconf_differences.proofs.same_values.Compared.add_children.Goals as goal

pub returns-then-not-have_one_type-clause-same : goal.returns-then-not-have_one_type-clause-same
returns-then-not-have_one_type-clause-same c = (
  λ no. absurd (no_truth no.0),
  λ same. absurd (other_types c.args.self c.requires.first c.requires.second (λ e. no_truth (sym c.if-not-have_one_type.true ∙ c.have_one_type.ensures.1 e)) same.0),
)

pub returns-then-not-have_one_type-clause-less : goal.returns-then-not-have_one_type-clause-less
returns-then-not-have_one_type-clause-less c = let some = some_nodes (value c.args.self.first) in omega (arith, some)

pub loop-child-init : goal.loop-child-init
loop-child-init c =
    let p = c.args.self in
    let ps = children_left c.into_iter-child-iterator.result in
    let e : ps ≡ parts (view_ty p.first) (view_bytes p.first) = ap children_left c.into_iter-child-iterator.ensures.into_iter_gives ∙ c.children-child-items.ensures in
    let few = none_fewer p ps c.requires.first e in (
      parts_left p ps (children_left c.children-others.result) c.args.left.now.items c.requires.first c.requires.second (c.have_one_type.ensures.0 c.if-not-have_one_type.false) e c.children-others.ensures,
      omega (arith, few),
    )

pub loop-child-preserved : goal.loop-child-preserved
loop-child-preserved c =
    let p : Compared = record { first = c.in-Some.child; second = c.in-Some-next.other } in
    let left = c.loop-child.left.items in
    let new = c.push.new.self.items in
    let ps = children_left c.next.new.self in
    let qs = children_left c.next-in-loop-child.new.self in
    let pss = children_left c.loop-child.child-iterator in
    let qss = children_left c.loop-child.others in
    let more = work_left left new p ps qs pss qss c.in_ok-push.ensures.items c.in-Some.ensures.steps c.in-Some-next.ensures.steps in (
      both_then (one_left left new p ps qs pss qss c.in_ok-push.ensures.items c.in-Some.ensures.steps c.in-Some-next.ensures.steps) c.loop-child.invariant.0,
      omega (arith, more, c.loop-child.invariant.1),
    )

use Rattle.std.proofs.Common.{◌≡◌, sym, ◌∙◌, refl, subst, rules, []}
use Rattle.gv_view.specs.Views.{value}
use Rattle.dconf_model.proofs.PathMaps.{no_truth}
use Rattle.dconf_differences.specs.Differing.{AreSame}
use Rattle.dconf_differences.proofs.SameValueLaws.{compared_one, less_work}
use Rattle.dconf_differences.proofs.same_values.show_same.Goals as goal

pub returns-then-are_alike : goal.returns-then-are_alike
returns-then-are_alike c = (λ t. c.are_alike.ensures c.if-are_alike.true, λ e. refl)

pub returns-then-not-branch : goal.returns-then-not-branch
returns-then-not-branch c =
    let told = compared_one c.loop-pair.left.items c.pop.new.self.items c.compare.new.left.items c.in-Some.pair c.in_ok-compare.field-0 (value c.args.first ≡ value c.args.second)
    c.in-Some.ensures.items c.in_ok-compare.ensures.same c.loop-pair.invariant in
    (λ t. absurd (no_truth t), λ e. absurd (no_truth (sym c.if-not-branch.true ∙ (told.1 e).0)))

pub loop-pair-smaller : goal.loop-pair-smaller
loop-pair-smaller c = less_work c.loop-pair.left.items c.pop.new.self.items c.compare.new.left.items c.in-Some.pair c.in-Some.ensures.items c.in_ok-compare.ensures.less

pub loop-pair-preserved : goal.loop-pair-preserved
loop-pair-preserved c =
    let told = compared_one c.loop-pair.left.items c.pop.new.self.items c.compare.new.left.items c.in-Some.pair c.in_ok-compare.field-0 (value c.args.first ≡ value c.args.second)
    c.in-Some.ensures.items c.in_ok-compare.ensures.same c.loop-pair.invariant in
    (λ h. told.0 (c.if-not-branch.false, h), λ e. (told.1 e).1)

pub returns : goal.returns
returns c =
    let none : c.loop-pair.left.items ≡ [] = search rules in
    (λ t. c.loop-pair.invariant.0 (subst AreSame (sym none) tt), λ e. refl)

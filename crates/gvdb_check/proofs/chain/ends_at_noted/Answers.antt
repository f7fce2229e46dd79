use Rattle.std.proofs.Common.{◌≡◌, Some, None, [], ◌∷◌, arith, sym, ◌∙◌, refl, true, false}
use Rattle.dconf_model.specs.Table.{item}
use Rattle.gvdb_check.specs.NotedItems.{Ends}
use Rattle.gvdb_format.specs.Tables.{region}
use Rattle.gvdb_check.proofs.ChainSteps.{climbs_more, in_a_circle}
use Rattle.gvdb_check.proofs.NotedWalks.{some_known}
use Rattle.gvdb_check.proofs.chain.ends_at_noted.Goals as goal

pub returns-then-is_some : goal.returns-then-is_some
returns-then-is_some c =
    let known = some_known (Ends (region c.args.table)) _ c.loop.at c.get.result c.requires.noted c.get.ensures (sym c.is_some.ensures ∙ c.if-is_some.true) in
    λ _. (λ _. c.loop.invariant.climbs.ahead known.1.0 known.1.1, λ _. refl)

pub returns-in_default : goal.returns-in_default
returns-in_default c =
    let top : (item (region c.args.table) c.loop.at).parent ≡ None = sym c.parent_at.ensures ∙ c.in_default.is in
    λ _. (λ _. c.loop.invariant.climbs.ahead [] top, λ _. refl)

-- the parents of a lower item end
pub returns-then-parent-i : goal.returns-then-parent-i
returns-then-parent-i c =
    let up : (item (region c.args.table) c.loop.at).parent ≡ Some c.in-Some.parent = sym c.parent_at.ensures ∙ c.in-Some.is in
    λ kept. let end = kept c.in-Some.parent c.if-parent-i.true in (λ _. c.loop.invariant.climbs.ahead (c.in-Some.parent ∷ end.parents) (up, end.ends), λ _. refl)

pub loop-preserved : goal.loop-preserved
loop-preserved c =
    let up : (item (region c.args.table) c.loop.at).parent ≡ Some c.in-Some.parent = sym c.parent_at.ensures ∙ c.in-Some.is in
    record { climbs = climbs_more _ _ _ _ _ c.requires.keys c.loop.invariant.climbs up; all = c.loop.invariant.all }

pub returns : goal.returns
returns c =
    let round = in_a_circle (region c.args.table) c.args.i c.loop.at c.loop.counter c.requires.keys c.requires.counted c.loop.invariant.climbs (omega arith) in
    λ _. (λ h. let bad : false ≡ true = h in cc, λ leads. absurd (round leads.0 leads.1))

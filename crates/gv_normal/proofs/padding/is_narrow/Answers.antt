use Rattle.std.proofs.Common.{refl}
use Rattle.gv_normal.proofs.Narrow.{narrow_one, narrow_two, narrow_four}
use Rattle.gv_normal.proofs.padding.is_narrow.Goals as goal

pub returns-then-width-eq1 : goal.returns-then-width-eq1
returns-then-width-eq1 c = let h = narrow_one c.args.body c.args.count c.args.width c.requires.width c.if-width-eq1.true in (λ g. h, λ g. refl)

pub returns-then-width-eq2 : goal.returns-then-width-eq2
returns-then-width-eq2 c = narrow_two c.args.body c.args.count c.args.width c.requires.width c.if-width-eq2.true

pub returns-then-width-eq4 : goal.returns-then-width-eq4
returns-then-width-eq4 c = narrow_four c.args.body c.args.count c.args.width c.requires.width c.if-width-eq4.true

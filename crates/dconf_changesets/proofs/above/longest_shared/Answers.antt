use Rattle.std.proofs.Common.{◌≡◌, ◌+◌, ◌-◌, ◌<◌, ◌∙◌, sym, ap, arith, true, false}
use Rattle.dconf_changesets.specs.Above.{is_shared, longest_shared}
use Rattle.dconf_changesets.proofs.AboveLaws.{longest_down, longest_here}
use Rattle.dconf_changesets.proofs.above.longest_shared.Goals as goal

pub returns-then-is_shared : goal.returns-then-is_shared
returns-then-is_shared c =
    let is : is_shared c.args.path.now c.args.other.now (c.args.top - c.loop-back.back) ≡ true = cc in
    let some : 0 < c.args.top - c.loop-back.back = omega (arith, c.loop-back-test.true) in
    sym (longest_here c.args.path.now c.args.other.now (c.args.top - c.loop-back.back) some is) ∙ c.loop-back.invariant

pub loop-back-preserved : goal.loop-back-preserved
loop-back-preserved c =
    let isnt : is_shared c.args.path.now c.args.other.now (c.args.top - c.loop-back.back) ≡ false = cc in
    let one : c.args.top - c.loop-back.back ≡ (c.args.top - (c.loop-back.back + 1)) + 1 = omega (arith, c.loop-back-test.true) in
    sym (longest_down c.args.path.now c.args.other.now (c.args.top - c.loop-back.back) (c.args.top - (c.loop-back.back + 1)) one isnt) ∙ c.loop-back.invariant

pub returns : goal.returns
returns c =
    let none : c.args.top - c.loop-back.back ≡ 0 = omega (arith, c.loop-back-test.false) in
    ap (longest_shared c.args.path.now c.args.other.now) (sym none) ∙ c.loop-back.invariant

use Rattle.std.proofs.Common.{◌≡◌, ◌∙◌, ◌-◌, ◌+◌, sym, subst, arith}
use Rattle.dconf_model.specs.Layers.{locks_path}
use Rattle.gvdb_read.specs.Lookups.{name_text}
use Rattle.dconf_layers.proofs.Levels.{NoneFrom, level_at, level_below, level_none}
use Rattle.dconf_layers.specs.LayerSettings.{seen_in}
use Rattle.dconf_layers.proofs.lent.LentLayers.level_above.Goals as goal

pub returns-then-i-floor-clause-none : goal.returns-then-i-floor-clause-none
returns-then-i-floor-clause-none c low =
    let P = locks_path (name_text c.args.path) in
    let xs = (seen_in c.args.self).layers in
    let i = c.loop-i.i in
    let step : i ≡ i - 1 + 1 = let some = c.loop-i-test.true in omega arith in
    let below = level_below P xs (i - 1) (subst (NoneFrom P xs) step c.loop-i.invariant.none) in
    let within = c.if-i-floor.true in omega (arith, below, within)

pub returns-then-locks_at-clause-above : goal.returns-then-locks_at-clause-above
returns-then-locks_at-clause-above c above =
    let P = locks_path (name_text c.args.path) in
    let xs = (seen_in c.args.self).layers in
    let i = c.loop-i.i in
    let step : i ≡ i - 1 + 1 = let some = c.loop-i-test.true in omega arith in
    sym (level_at P xs (i - 1) (omega arith) (omega arith) (sym c.locks_at.ensures ∙ c.if-locks_at.true) (subst (NoneFrom P xs) step c.loop-i.invariant.none))

pub returns-then-locks_at-clause-none : goal.returns-then-locks_at-clause-none
returns-then-locks_at-clause-none c low = let above = c.if-i-floor.false in absurd (omega (arith, above, low))

pub returns-clause-none : goal.returns-clause-none
returns-clause-none c low =
    let e = level_none (locks_path (name_text c.args.path)) (seen_in c.args.self).layers (λ k from within. c.loop-i.invariant.none k (omega (arith, from)) within) in omega (arith, e)

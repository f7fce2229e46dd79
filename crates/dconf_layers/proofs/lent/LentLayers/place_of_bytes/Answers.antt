use Rattle.std.proofs.Common.{◌≡◌, ◌∙◌, None, Some, arith, false, rules}
use Rattle.std.proofs.lemmas.List.{length-map}
use Rattle.dconf_model.specs.Layers.{first_from, locks_path}
use Rattle.dconf_layers.proofs.Levels.{first_place, level_below, no_place}
use Rattle.dconf_layers.specs.LayerSettings.{seen_in, settings_of}
use Rattle.dconf_layers.proofs.lent.LentLayers.place_of_bytes.Goals as goal

pub returns-in_err-first-clause-place : goal.returns-in_err-first-clause-place
returns-in_err-first-clause-place c key =
    let none : first_from 0 (seen_in c.args.self).layers c.args.path.now ≡ None = search rules in
    search rules ∙ no_place (seen_in c.args.self) c.args.path.now none

pub returns-then-saturating_add-self-clause-place : goal.returns-then-saturating_add-self-clause-place
returns-then-saturating_add-self-clause-place c key =
    let found : first_from 0 (seen_in c.args.self).layers c.args.path.now ≡ Some (c.in_ok-first.first, c.in_ok-first.bytes.now) = search rules in
    let last = c.if-saturating_add-self.true in
    let next = c.saturating_add.ensures in
    let n = length-map c.args.self.layers.now settings_of in
    first_place (seen_in c.args.self) c.args.path.now (c.in_ok-first.first, c.in_ok-first.bytes.now) found
    (level_below (locks_path c.args.path.now) (seen_in c.args.self).layers c.in_ok-first.first (λ k from within. absurd (omega (arith, from, within, n, last, next))))

pub returns-then-not-have_locks-clause-place : goal.returns-then-not-have_locks-clause-place
returns-then-not-have_locks-clause-place c key =
    let found : first_from 0 (seen_in c.args.self).layers c.args.path.now ≡ Some (c.in_ok-first.first, c.in_ok-first.bytes.now) = search rules in
    let none : c.have_locks.result ≡ false = search rules in
    let low = c.have_locks.ensures.unlocked none c.args.path.now key.1 in
    first_place (seen_in c.args.self) c.args.path.now (c.in_ok-first.first, c.in_ok-first.bytes.now) found (omega (arith, low))

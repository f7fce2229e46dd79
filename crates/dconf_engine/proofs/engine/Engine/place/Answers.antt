use Rattle.std.proofs.Common.{◌≡◌, ◌<◌, ◌∙◌, ℕ, ap, drop, rules, List}
use Rattle.dconf_model.specs.Layers.{first_from, greatest_from, level, locks_path}
use Rattle.dconf_model.specs.Settings.{Settings}
use Rattle.dconf_path.specs.Paths.{key_text}
use Rattle.dconf_layers.specs.LayerSettings.{seen_in}
use Rattle.dconf_layers.proofs.Levels.{place_later}
use Rattle.dconf_engine.proofs.engine.Engine.place.Goals as goal

pub returns-then-level-eq0 : goal.returns-then-level-eq0
returns-then-level-eq0 c =
    let l = c.args.self.now in
    let path = key_text c.args.path in
    let zero : 0 ≡ c.level-level.result = search rules in
    let same : level (seen_in c.lent-lent.result) path ≡ level l path = ap (λ (ss : List Settings). greatest_from 1 (locks_path path) ss) c.lent-lent.ensures.later in
    c.first_place.ensures ∙ ap (λ (n : ℕ). first_from n (drop n l.layers) path) (zero ∙ c.level-level.ensures ∙ same)

pub returns : goal.returns
returns c =
    let l = c.args.self.now in
    let path = key_text c.args.path in
    let some : 0 < c.level-level.result = search rules in
    let same : level (seen_in c.lent-lent.result) path ≡ level l path = ap (λ (ss : List Settings). greatest_from 1 (locks_path path) ss) c.lent-lent.ensures.later in
    c.place_from.ensures ∙ place_later (seen_in c.lent-lent.result).layers l.layers c.level-level.result path some c.lent-lent.ensures.later
    ∙ ap (λ (n : ℕ). first_from n (drop n l.layers) path) (c.level-level.ensures ∙ same)

use Rattle.std.proofs.Common.{◌≡◌, ◌∙◌, List, ℕ, None, ap, option_map, rules, sym}
use Rattle.dconf_layers.specs.Children.{place_shown}
use Rattle.dconf_layers.specs.LayerSettings.{seen_in}
use Rattle.dconf_layers.proofs.Levels.{no_place}
use Rattle.dconf_layers.proofs.lent.LentLayers.bytes_above.Goals as goal

pub returns-in_err-layer : goal.returns-in_err-layer
returns-in_err-layer c key =
    let none : place_shown c.args.first ≡ None = search rules in
    search rules ∙ ap (option_map {U = List ℕ} (λ p. p.1)) (no_place (seen_in c.args.self) c.args.path.now (sym (c.requires key) ∙ none))

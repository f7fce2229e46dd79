use Rattle.std.proofs.Common.{◌≡◌, ◌∙◌, Bool, ap, map}
use Rattle.dconf_model.specs.Layers.{Layers, all_paths}
use Rattle.dconf_model.specs.Outcomes.{done}
use Rattle.dconf_model.specs.Profiles.{has_writable}
use Rattle.dconf_model.specs.Walks.{keys_below}
use Rattle.dconf_path.specs.Paths.{directory_text}
use Rattle.dconf_path.specs.Profiles.{databases_of}
use Rattle.dconf_layers.specs.Children.{seen_path}
use Rattle.dconf_layers.specs.LayerSettings.{seen_in, settings_of}
use Rattle.dconf_commands.specs.Below.{key_parts}
use Rattle.dconf_commands.proofs.DumpLaws.{all_seen}
use Rattle.dconf_commands.proofs.below.explained_below.Goals as goal

pub returns : goal.returns
returns c =
    let databases = databases_of c.args.profile.now in
    let directory = directory_text c.args.directory in
    let lent = seen_in c.new-lent.result in
    let l : Bool → Layers = λ writable. record { layers = map settings_of c.args.layers.now; writable = writable } in
    let engine : c.in_ok-engine.engine ≡ l (has_writable databases) = c.in_ok-engine.ensures ∙ ap l c.is_of_user-writable.ensures in
    let walked = all_seen lent c.in_ok-keys.keys.items (keys_below (all_paths lent.layers) directory) c.in_ok-keys.ensures.seen in
    let paths : map seen_path c.deref.result.now ≡ keys_below (all_paths (map settings_of c.args.layers.now)) directory =
    ap (map seen_path) c.deref.ensures.value ∙ (walked.1 ∙ ap (λ (m : Layers). keys_below (all_paths m.layers) directory) c.new-lent.ensures) in
    ap done (c.in_ok-text.ensures ∙ (λ i. key_parts databases (engine i) (paths i)))

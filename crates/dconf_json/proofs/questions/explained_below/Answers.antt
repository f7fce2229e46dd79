use Rattle.std.proofs.Common.{◌∙◌, ap, map, string_bytes, subst, sym}
use Rattle.std.specs.Prelude.{IsTrue}
use Rattle.std.specs.List.{All}
use Rattle.dconf_model.specs.Layers.{all_paths}
use Rattle.dconf_model.specs.Paths.{is_key_path}
use Rattle.dconf_model.specs.Walks.{keys_below}
use Rattle.dconf_path.specs.Paths.{directory_text}
use Rattle.dconf_path.specs.Profiles.{databases_of}
use Rattle.dconf_layers.specs.declared.seen.SeenKey.{SeenKey}
use Rattle.dconf_layers.specs.Children.{seen_path}
use Rattle.dconf_layers.specs.LayerSettings.{seen_in}
use Rattle.dconf_commands.proofs.DumpLaws.{all_seen}
use Rattle.dconf_json.specs.Explained.{explanations}
use Rattle.dconf_json.proofs.questions.explained_below.Goals as goal

pub explanations-requires : goal.explanations-requires
explanations-requires c = subst (All (λ (key : SeenKey). IsTrue (is_key_path (string_bytes key.path)))) (sym c.deref.ensures.value) c.in_ok-keys.ensures.paths

pub returns : goal.returns
returns c =
    let l = seen_in c.args.layers in
    let walked = all_seen l c.in_ok-keys.keys.items (keys_below (all_paths l.layers) (directory_text c.args.directory)) c.in_ok-keys.ensures.seen in
    c.in_ok-text.ensures ∙ ap (explanations (databases_of c.args.profile.now) l) (ap (map seen_path) c.deref.ensures.value ∙ walked.1)

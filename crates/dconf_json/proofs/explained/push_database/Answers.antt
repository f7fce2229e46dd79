use Rattle.std.proofs.Common.{rules, [], ◌∷◌, codes}
use Rattle.std.proofs.lemmas.Result.{on_ok_weaker}
use Rattle.json.specs.Token.{begin_object, end_object}
use Rattle.dconf_model.specs.Explains.{place_name}
use Rattle.dconf_path.specs.Paths.{key_text}
use Rattle.dconf_path.specs.Profiles.{databases_of}
use Rattle.dconf_layers.specs.LayerSettings.{seen_in}
use Rattle.dconf_json.specs.Explained.{held_tokens}
use Rattle.dconf_json.specs.Values.{text_member}
use Rattle.dconf_json.proofs.Appended.{four}
use Rattle.dconf_json.proofs.explained.push_database.Goals as goal

pub returns-clause-tokens : goal.returns-clause-tokens
returns-clause-tokens c =
    let name = text_member (codes "database") (place_name (databases_of c.args.profile.now) c.args.i) in
    let held = held_tokens (seen_in c.args.layers) (key_text c.args.key) c.args.i in
    let begun = four c.args.writer.now.tokens c.begin_object.new.self.tokens c.push_place.new.writer.tokens c.push_held.new.writer.tokens c.end_object.new.self.tokens
    (begin_object ∷ []) name held (end_object ∷ []) (search rules) c.in_ok-push_place.ensures.tokens c.in_ok-push_held.ensures.tokens in
    on_ok_weaker c.end_object.result begun c.end_object.ensures.ok

use Rattle.std.proofs.Common.{rules, [], ◌∷◌, codes}
use Rattle.std.proofs.lemmas.Result.{on_ok_weaker}
use Rattle.json.specs.Token.{begin_array, key}
use Rattle.dconf_path.specs.Paths.{key_text}
use Rattle.dconf_layers.specs.LayerSettings.{seen_in}
use Rattle.dconf_json.specs.Explained.{why_tokens}
use Rattle.dconf_json.proofs.Appended.{three}
use Rattle.dconf_json.proofs.explained.push_refusal.Goals as goal

pub returns-clause-tokens : goal.returns-clause-tokens
returns-clause-tokens c =
    let why = why_tokens (seen_in c.args.layers) (key_text c.args.key) in
    let begun = three c.args.writer.now.tokens c.push_why.new.writer.tokens c.key.new.self.tokens c.begin_array.new.self.tokens why (key (codes "databases") ∷ []) (begin_array ∷ [])
    c.in_ok-push_why.ensures.tokens (search rules) in
    on_ok_weaker c.begin_array.result begun c.begin_array.ensures.ok

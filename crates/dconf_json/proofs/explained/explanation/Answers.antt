use Rattle.std.proofs.Common.{◌∙◌, ◌++◌, ap, append_assoc, sym}
use Rattle.dconf_model.specs.Databases.{gathered}
use Rattle.dconf_path.specs.Paths.{key_text}
use Rattle.dconf_path.specs.Profiles.{databases_of}
use Rattle.dconf_layers.specs.LayerSettings.{seen_in}
use Rattle.dconf_json.specs.Explained.{database_tokens, head_tokens}
use Rattle.dconf_json.proofs.Gathered.{gathered_more}
use Rattle.dconf_json.proofs.explained.explanation.Goals as goal

pub loop-i-preserved : goal.loop-i-preserved
loop-i-preserved c =
    let i = c.loop-i.i in
    let head = head_tokens (databases_of c.args.profile.now) (seen_in c.args.layers) (key_text c.args.key) in
    let each = database_tokens (databases_of c.args.profile.now) (seen_in c.args.layers) (key_text c.args.key) in (
      c.in_ok-push_database.ensures.before ∙ c.loop-i.invariant.0,
      c.in_ok-push_database.ensures.tokens
          ∙ (ap (λ ts. ts ++ each i) c.loop-i.invariant.1 ∙ (append_assoc head (gathered each i) (each i) ∙ ap (λ ts. head ++ ts) (sym (gathered_more each i)))),
    )

use Rattle.std.proofs.Common.{◌≡◌, ◌++◌, []}
use Rattle.dconf_model.specs.Databases.{gathered}
use Rattle.dconf_path.specs.Paths.{key_text}
use Rattle.dconf_path.specs.Profiles.{databases_of}
use Rattle.dconf_layers.specs.LayerSettings.{seen_in}
use Rattle.dconf_json.specs.Explained.{database_tokens, head_tokens}
use Rattle.dconf_json.proofs.explained.explanation.Given as goal

abbrev pub invariant-loop-i : goal.invariant-loop-i
invariant-loop-i l =
    (l.writer.before ≡ [])
    × (l.writer.tokens ≡ head_tokens (databases_of l.profile) (seen_in l.layers) (key_text l.key) ++ gathered (database_tokens (databases_of l.profile) (seen_in l.layers) (key_text l.key)) l.i)

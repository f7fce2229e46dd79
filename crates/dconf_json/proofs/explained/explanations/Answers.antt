use Rattle.std.proofs.Common.{List, ℕ, string_bytes, subst, sym}
use Rattle.std.specs.Prelude.{IsTrue}
use Rattle.dconf_model.specs.Paths.{is_key_path}
use Rattle.dconf_layers.specs.declared.seen.SeenKey.{SeenKey}
use Rattle.dconf_json.proofs.explained.explanations.Goals as goal

abbrev IsKey : SeenKey → Type 0
IsKey key = IsTrue (is_key_path (string_bytes key.path))

pub explanation_at-requires : goal.explanation_at-requires
explanation_at-requires c =
    subst (λ (s : List ℕ). IsTrue (is_key_path s)) (sym c.as_str.ensures.value)
    (subst IsKey (sym c.key-item.is) (c.requires c.loop-key.key-index c.key-item.result c.loop-key-test.true))

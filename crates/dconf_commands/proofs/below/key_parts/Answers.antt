use Rattle.std.proofs.Common.{List, ℕ, string_bytes, subst, sym}
use Rattle.std.specs.Prelude.{IsTrue}
use Rattle.std.specs.List.{All}
use Rattle.std.proofs.lemmas.List.Elements.{All-head, All-rest}
use Rattle.dconf_model.specs.Paths.{is_key_path}
use Rattle.dconf_layers.specs.declared.seen.SeenKey.{SeenKey}
use Rattle.dconf_commands.proofs.below.key_parts.Goals as goal

abbrev IsKeys : SeenKey → Type 0
IsKeys key = IsTrue (is_key_path (string_bytes key.path))

pub key_part-requires : goal.key_part-requires
key_part-requires c =
    let others = All-rest IsKeys c.in-Some.first.now c.in-Some.others.now c.args.keys.now c.in-Some.ensures.cases.0 c.requires in
    subst (λ (s : List ℕ). IsTrue (is_key_path s)) (sym c.as_str.ensures.value)
    (subst IsKeys (sym c.key-item.is) (others c.loop-key.key-index c.key-item.result c.loop-key-test.true))

pub key_part-requires-2 : goal.key_part-requires-2
key_part-requires-2 c =
    subst (λ (s : List ℕ). IsTrue (is_key_path s)) (sym c.as_str-2.ensures.value)
    (All-head IsKeys c.in-Some.first.now c.in-Some.others.now (subst (All IsKeys) c.in-Some.ensures.cases.0 c.requires))

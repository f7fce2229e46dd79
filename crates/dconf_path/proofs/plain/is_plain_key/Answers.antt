use Rattle.std.proofs.Common.{◌≡◌, true, sym, ◌∙◌, rules}
use Rattle.dconf_model.specs.Paths.{is_short}
use Rattle.dconf_path.proofs.PlainLaws.{plain_key}
use Rattle.dconf_path.proofs.plain.is_plain_key.Goals as goal

pub returns-clause-key : goal.returns-clause-key
returns-clause-key c plain =
    let short : is_short c.args.bytes.now ≡ true = search rules in
    plain_key c.args.bytes.now (sym c.starts_with.ensures.value ∙ c.if-not-starts_with.false) (sym c.ends_with.ensures.value ∙ c.if-ends_with.false) short (c.is_plain.ensures plain)

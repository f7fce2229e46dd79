use Rattle.std.proofs.Common.{rules, not, ap, ◌∙◌, ◌==◌, ◌||◌}
use Rattle.std.proofs.lemmas.Iterator.{YieldsList-from_slice}
use Rattle.std.proofs.lemmas.Iterator.Search.{any_from_yields_List}
use Rattle.dconf_model.specs.Keyfiles.{is_control}
use Rattle.keyfile_lines.proofs.groups.is_plain.Goals as goal

pub returns : goal.returns
returns c =
    ap not (any_from_yields_List (λ byte. byte == 91 || (byte == 93 || is_control byte)) _ _ _ c.any.ensures.ran
    (YieldsList-from_slice c.args.text.now (c.iter.ensures.rest ∙ c.as_bytes.ensures.value)) (λ x b q k. search rules))

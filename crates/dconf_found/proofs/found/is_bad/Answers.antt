use Rattle.std.proofs.Common.{rules, ◌∙◌, string_bytes}
use Rattle.std.specs.Str.{bytes_eq}
use Rattle.std.proofs.lemmas.Iterator.{YieldsList-from_slice}
use Rattle.std.proofs.lemmas.Iterator.Search.{any_from_yields_List}
use Rattle.dconf_found.proofs.PastLaws.{any_of_map}
use Rattle.dconf_found.proofs.found.is_bad.Goals as goal

pub returns : goal.returns
returns c =
    let name = c.args.name.now in
    any_from_yields_List (λ it. bytes_eq (string_bytes it.name) name) _ _ _ c.any.ensures.ran (YieldsList-from_slice c.args.bad.now c.iter.ensures.rest) (λ x b q k. search rules)
    ∙ any_of_map (λ lost. bytes_eq lost.0 name) (λ it. (string_bytes it.name, it.loss)) c.args.bad.now

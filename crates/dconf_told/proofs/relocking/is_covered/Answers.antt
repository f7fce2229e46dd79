use Rattle.std.proofs.Common.{rules, ◌∙◌, string_bytes}
use Rattle.std.proofs.lemmas.Iterator.{YieldsList-from_slice}
use Rattle.std.proofs.lemmas.Iterator.Search.{any_from_yields_List}
use Rattle.dconf_told.specs.Relocking.{hides}
use Rattle.dconf_told.proofs.RelockedLaws.{list_any-map}
use Rattle.dconf_told.proofs.relocking.is_covered.Goals as goal

pub returns : goal.returns
returns c =
    let path = c.args.path.now in
    any_from_yields_List (λ other. hides path (string_bytes other)) _ _ _ c.any.ensures.ran (YieldsList-from_slice c.args.paths.now c.iter.ensures.rest) (λ x b q k. search rules)
    ∙ list_any-map (hides path) string_bytes c.args.paths.now

use Rattle.std.proofs.Common.{rules, ◌∙◌, string_bytes}
use Rattle.std.specs.Cmp.Lexicographic.{slice_cmp}
use Rattle.std.specs.Ordering.{nat_cmp}
use Rattle.std.proofs.lemmas.Fn.{always_returns_same}
use Rattle.dconf_told.proofs.SearchLaws.{search_tells}
use Rattle.dconf_told.proofs.texts.has_text.Goals as goal

pub returns : goal.returns
returns c =
    c.is_ok.ensures.value ∙ search_tells c.args.text.now c.args.texts.now c.binary_search_by.result c.requires c.binary_search_by.ensures.bound
    (c.binary_search_by.ensures.position (λ text. slice_cmp nat_cmp (string_bytes text) c.args.text.now) (always_returns_same _ _ _ (λ a r g h. (search rules, search rules))))

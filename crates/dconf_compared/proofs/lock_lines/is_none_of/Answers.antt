use Rattle.std.proofs.Common.{rules, ◌∙◌, ap, map, not, string_bytes}
use Rattle.std.specs.Cmp.Lexicographic.{slice_cmp}
use Rattle.std.specs.Ordering.{nat_cmp}
use Rattle.std.proofs.lemmas.Fn.{always_returns_same}
use Rattle.dconf_told.proofs.SearchLaws.{search_tells}
use Rattle.dconf_compared.proofs.SearchedLocks.{missing, none_found}
use Rattle.dconf_compared.proofs.lock_lines.is_none_of.Goals as goal

pub returns : goal.returns
returns c =
    c.is_err.ensures.value ∙ (missing c.binary_search_by.result
    ∙ (ap not (search_tells c.args.path.now c.args.paths.now c.binary_search_by.result c.requires c.binary_search_by.ensures.bound
    (c.binary_search_by.ensures.position (λ other. slice_cmp nat_cmp (string_bytes other) c.args.path.now) (always_returns_same _ _ _ (λ a r g h. (search rules, search rules)))))
    ∙ none_found c.args.path.now (map string_bytes c.args.paths.now)))

use Rattle.std.proofs.Common.{◌≡◌, drop}
use Rattle.std.specs.FinMap.{empty}
use Rattle.dconf_layers.specs.TextSets.{with_texts}
use Rattle.dconf_told.specs.Telling.{any_names}
use Rattle.dconf_told.proofs.news.Telling.asked_of_any.Given as goal

-- what is left to add gives what all give
abbrev pub invariant-loop-key : goal.invariant-loop-key
invariant-loop-key l = with_texts (any_names (drop l.key-index l.self.asked.now)) l.paths ≡ with_texts (any_names l.self.asked.now) empty

use Rattle.std.proofs.Common.{◌≡◌, drop}
use Rattle.dconf_layers.specs.LayerSettings.{seen_in}
use Rattle.dconf_layers.specs.TextSets.{with_texts}
use Rattle.dconf_told.specs.Telling.{named_otherwise}
use Rattle.dconf_told.proofs.news.Telling.add_asked.Given as goal

-- what is left to add gives what all give
abbrev pub invariant-loop-key : goal.invariant-loop-key
invariant-loop-key l =
    with_texts (named_otherwise (seen_in l.self.before) (seen_in l.self.after) (drop l.key-index l.self.asked.now)) l.paths
    ≡ with_texts (named_otherwise (seen_in l.self.before) (seen_in l.self.after) l.self.asked.now) l.initial.paths

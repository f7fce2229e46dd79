use Rattle.std.proofs.Common.{◌≡◌, drop, map}
use Rattle.std.specs.Prelude.{filter, string_bytes}
use Rattle.dconf_layers.specs.LayerSettings.{seen_in}
use Rattle.dconf_layers.specs.TextSets.{with_texts}
use Rattle.dconf_told.specs.Telling.{shown_otherwise}
use Rattle.dconf_told.proofs.news.Telling.add_others.Given as goal

-- what is left to add gives what all give
abbrev pub invariant-loop-path : goal.invariant-loop-path
invariant-loop-path l =
    with_texts (filter (shown_otherwise (seen_in l.self.before) (seen_in l.self.after) l.self.asked.now) (map string_bytes (drop l.path-index l.others))) l.paths
    ≡ with_texts (filter (shown_otherwise (seen_in l.self.before) (seen_in l.self.after) l.self.asked.now) (map string_bytes l.others)) l.initial.paths

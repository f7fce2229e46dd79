use Rattle.std.proofs.Common.{◌≡◌}
use Rattle.std.specs.Prelude.{filter}
use Rattle.dconf_layers.specs.Entries.{entries_left}
use Rattle.dconf_layers.specs.LayerRows.{paths_of}
use Rattle.dconf_layers.specs.LayerSettings.{seen_in}
use Rattle.dconf_layers.specs.TextSets.{with_texts}
use Rattle.dconf_told.specs.Telling.{shown_otherwise}
use Rattle.dconf_told.proofs.news.Telling.add_entries.Given as goal

-- what is left to add gives what all entries give
abbrev pub invariant-loop-entry : goal.invariant-loop-entry
invariant-loop-entry l =
    with_texts (filter (shown_otherwise (seen_in l.self.before) (seen_in l.self.after) l.self.asked.now) (paths_of (entries_left l.entry-iterator))) l.paths
    ≡ with_texts (filter (shown_otherwise (seen_in l.self.before) (seen_in l.self.after) l.self.asked.now) (paths_of (entries_left l.entries))) l.initial.paths

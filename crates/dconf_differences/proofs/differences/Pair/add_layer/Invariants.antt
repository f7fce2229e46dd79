use Rattle.std.proofs.Common.{◌≡◌}
use Rattle.std.specs.Prelude.{filter}
use Rattle.dconf_layers.specs.Entries.{entries_left}
use Rattle.dconf_layers.specs.LayerRows.{layer_paths, paths_of}
use Rattle.dconf_layers.specs.LayerSettings.{seen_in}
use Rattle.dconf_layers.specs.TextSets.{with_texts}
use Rattle.dconf_differences.specs.Differing.{differs}
use Rattle.dconf_differences.proofs.differences.Pair.add_layer.Given as goal

-- what is left to add gives what all entries give
abbrev pub invariant-loop-entry : goal.invariant-loop-entry
invariant-loop-entry l =
    with_texts (filter (differs (seen_in l.self.first) (seen_in l.self.second)) (paths_of (entries_left l.entry-iterator))) l.paths
    ≡ with_texts (filter (differs (seen_in l.self.first) (seen_in l.self.second)) (layer_paths l.layer)) l.initial.paths

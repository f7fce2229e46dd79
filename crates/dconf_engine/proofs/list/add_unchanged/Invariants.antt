use Rattle.std.proofs.Common.{◌≡◌}
use Rattle.dconf_path.specs.Paths.{directory_text}
use Rattle.dconf_layers.specs.Entries.{entries_left}
use Rattle.dconf_layers.specs.LayerRows.{layer_paths, paths_of}
use Rattle.dconf_layers.specs.TextSets.{with_children}
use Rattle.dconf_engine.specs.LeftPaths.{unchanged_of}
use Rattle.dconf_engine.proofs.list.add_unchanged.Given as goal

-- what is left to add gives what all entries give
abbrev pub invariant-loop-entry : goal.invariant-loop-entry
invariant-loop-entry l =
    with_children (directory_text l.directory) (unchanged_of l.changes (paths_of (entries_left l.entry-iterator))) l.names
    ≡ with_children (directory_text l.directory) (unchanged_of l.changes (layer_paths l.layer)) l.initial.names

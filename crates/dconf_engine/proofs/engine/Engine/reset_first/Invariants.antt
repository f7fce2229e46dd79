use Rattle.std.proofs.Common.{◌≡◌}
use Rattle.dconf_path.specs.Paths.{directory_text}
use Rattle.dconf_layers.specs.Entries.{entries_left}
use Rattle.dconf_layers.specs.LayerRows.{paths_of}
use Rattle.dconf_engine.specs.Cleared.{cleared, first_paths}
use Rattle.dconf_engine.specs.Unsaved.{and_resets}
use Rattle.dconf_engine.proofs.engine.Engine.reset_first.Given as goal

-- what is left to reset gives what all entries give
abbrev pub invariant-loop-entry : goal.invariant-loop-entry
invariant-loop-entry l =
    and_resets (cleared l.self (directory_text l.directory) (paths_of (entries_left l.entry-iterator))) l.changes
    ≡ and_resets (cleared l.self (directory_text l.directory) (first_paths l.layers)) l.initial.changes

use Rattle.std.proofs.Common.{◌≡◌}
use Rattle.std.specs.FinMap.{entries}
use Rattle.dconf_path.specs.Paths.{directory_text}
use Rattle.dconf_engine.specs.Cleared.{changed_paths, cleared}
use Rattle.dconf_engine.specs.Unsaved.{and_resets}
use Rattle.dconf_engine.specs.UnsavedLeft.{changes_left}
use Rattle.dconf_engine.proofs.engine.Engine.reset_changed.Given as goal

-- what is left to reset gives what all changes give
abbrev pub invariant-loop-change : goal.invariant-loop-change
invariant-loop-change l =
    and_resets (cleared l.self (directory_text l.directory) (changed_paths (changes_left l.change-iterator))) l.changes
    ≡ and_resets (cleared l.self (directory_text l.directory) (changed_paths (entries l.from))) l.initial.changes

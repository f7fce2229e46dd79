use Rattle.std.proofs.Common.{◌≡◌}
use Rattle.std.specs.FinMap.{entries}
use Rattle.dconf_path.specs.Paths.{directory_text}
use Rattle.dconf_engine.specs.LeftPaths.{with_set_children}
use Rattle.dconf_engine.specs.UnsavedLeft.{changes_left}
use Rattle.dconf_engine.proofs.list.add_sets.Given as goal

-- what is left to add gives what all changes give
abbrev pub invariant-loop-change : goal.invariant-loop-change
invariant-loop-change l =
    with_set_children (directory_text l.directory) (changes_left l.change-iterator) l.names
    ≡ with_set_children (directory_text l.directory) (entries l.changes) l.initial.names

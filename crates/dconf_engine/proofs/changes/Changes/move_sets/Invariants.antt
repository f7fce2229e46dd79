use Rattle.std.proofs.Common.{◌≡◌}
use Rattle.std.specs.FinMap.{entries}
use Rattle.dconf_engine.specs.Unsaved.{edit_bytes}
use Rattle.dconf_engine.specs.Saved.{with_sets}
use Rattle.dconf_engine.specs.TextMaps.{entries_by, AreAtKeyPaths}
use Rattle.dconf_engine.proofs.changes.Changes.move_sets.Given as goal

-- what is left to set gives what all changes give
abbrev pub invariant-loop-path : goal.invariant-loop-path
invariant-loop-path l = record {
  gives : with_sets (entries_by edit_bytes l.path-iterator) l.values ≡ with_sets (entries l.fn.self) l.initial.values;
  are_paths : AreAtKeyPaths (entries_by edit_bytes l.path-iterator);
}

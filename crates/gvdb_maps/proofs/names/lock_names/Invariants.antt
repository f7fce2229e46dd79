use Rattle.gvdb_maps.specs.PathsLeft.{locks_left}
use Rattle.gvdb_maps.proofs.LockNames.{AreLocksSoFar}
use Rattle.gvdb_maps.proofs.SortedEntries.{settings_in}
use Rattle.gvdb_maps.proofs.names.lock_names.Given as goal

abbrev pub invariant-loop-path : goal.invariant-loop-path
invariant-loop-path l = record { so_far : AreLocksSoFar (settings_in l.sorted) l.names.items (locks_left l.path-iterator) }

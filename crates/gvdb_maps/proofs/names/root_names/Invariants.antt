use Rattle.std.proofs.Common.{List, drop, ℕ}
use Rattle.gvdb_maps.specs.Maps.{AreKeyPaths, lent_entries}
use Rattle.gvdb_maps.proofs.RootNames.{AreNamesSoFar}
use Rattle.gvdb_maps.proofs.SortedEntries.{settings_in}
use Rattle.gvdb_maps.proofs.HeldEntries.{AreHeld, paths_of}
use Rattle.gvdb_maps.proofs.names.root_names.Given as goal

abbrev pub invariant-loop-path : goal.invariant-loop-path
invariant-loop-path l = record {
  last : List ℕ;
  so_far : AreNamesSoFar (settings_in l.sorted) l.names.items l.directory last (paths_of (lent_entries (drop l.path-index l.path-items)));
  held : AreHeld (settings_in l.sorted).values (lent_entries (drop l.path-index l.path-items));
  paths : AreKeyPaths (paths_of (lent_entries (drop l.path-index l.path-items)));
}

-- The paths that an iterator has left.
use Rattle.std.specs.Prelude.{ℕ, List}
use Rattle.gvdb_maps.specs.declared.map.Keys.{Keys}
use Rattle.gvdb_maps.specs.declared.map.Locks.{Locks}
use Rattle.gvdb_maps.specs.Maps.{texts}

abbrev pub keys_left : Keys → List (List ℕ)
keys_left k = texts k.rest

abbrev pub locks_left : Locks → List (List ℕ)
locks_left l = texts l.rest

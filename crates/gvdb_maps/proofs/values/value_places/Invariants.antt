use Rattle.std.proofs.Common.{◌≤◌, ◌+◌, length}
use Rattle.gvdb_maps.specs.LayoutParts.{ArePlaces}
use Rattle.gvdb_values.specs.WrittenValues.{bytes_of_each}
use Rattle.gvdb_maps.proofs.FoundValues.{AreFound}
use Rattle.gvdb_maps.proofs.values.value_places.Given as goal

abbrev pub invariant-loop-named : goal.invariant-loop-named
invariant-loop-named l = record {
  count : length l.values.distinct.items ≤ length l.fn.values.distinct.items + l.named-index;
  known : ArePlaces l.values.slots.items l.values.others (bytes_of_each l.values.distinct.items);
  so_far : AreFound l.items (bytes_of_each l.fn.values.distinct.items) (bytes_of_each l.values.distinct.items) l.places.items l.named-index;
}

use Rattle.gvdb_values.specs.WrittenValues.{bytes_of_each}
use Rattle.gvdb_maps.proofs.LaidValues.{AreLaid}
use Rattle.gvdb_maps.proofs.layout.lay_values.Given as goal

abbrev pub invariant-loop-value : goal.invariant-loop-value
invariant-loop-value l = record { so_far : AreLaid l.fn.cursor.at (bytes_of_each l.values) l.value-index l.cursor.at l.pointers.items }

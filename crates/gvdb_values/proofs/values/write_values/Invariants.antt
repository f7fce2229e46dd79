use Rattle.std.proofs.Common.{◌≡◌, take}
use Rattle.gvdb_values.specs.WrittenValues.{with_values, bytes_of_each}
use Rattle.gvdb_values.proofs.values.write_values.Given as goal

abbrev pub invariant-loop-value : goal.invariant-loop-value
invariant-loop-value l = l.out.items ≡ with_values l.fn.out.items (take l.value-index (bytes_of_each l.values))

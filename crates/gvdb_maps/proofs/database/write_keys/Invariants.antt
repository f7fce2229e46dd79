use Rattle.std.proofs.Common.{◌≡◌, ◌++◌, take}
use Rattle.gvdb_maps.specs.WrittenParts.{keys_bytes}
use Rattle.gvdb_maps.proofs.database.write_keys.Given as goal

abbrev pub invariant-loop-named : goal.invariant-loop-named
invariant-loop-named l = l.out.items ≡ l.fn.out.items ++ keys_bytes (take l.named-index l.items)

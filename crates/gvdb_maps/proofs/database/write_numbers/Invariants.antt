use Rattle.std.proofs.Common.{◌≡◌, ◌++◌, take}
use Rattle.dconf_model.specs.TableBytes.{words_bytes}
use Rattle.gvdb_maps.proofs.database.write_numbers.Given as goal

abbrev pub invariant-loop-number : goal.invariant-loop-number
invariant-loop-number l = l.out.items ≡ l.fn.out.items ++ words_bytes (take l.number-index l.numbers)

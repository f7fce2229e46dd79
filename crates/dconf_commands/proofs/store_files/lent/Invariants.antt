use Rattle.std.proofs.Common.{◌≡◌, map, take}
use Rattle.dconf_layers.specs.Verdicts.{bytes_of_files}
use Rattle.dconf_commands.specs.StoreReads.{bytes_of}
use Rattle.dconf_commands.proofs.store_files.lent.Given as goal

abbrev pub invariant-loop-item : goal.invariant-loop-item
invariant-loop-item l = bytes_of_files l.files.items ≡ map bytes_of (take l.item-index l.items)

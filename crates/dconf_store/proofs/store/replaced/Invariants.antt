use Rattle.std.proofs.Common.{◌≡◌, ◌∷◌, Some, take}
use Rattle.dconf_layers.specs.Verdicts.{bytes_of_files}
use Rattle.dconf_store.proofs.store.replaced.Given as goal

-- the first, and of the others those so far
abbrev pub invariant-loop-file : goal.invariant-loop-file
invariant-loop-file l = bytes_of_files l.again.items ≡ Some l.first ∷ take l.file-index (bytes_of_files l.others)

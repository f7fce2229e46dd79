use Rattle.std.proofs.Common.{◌≡◌}
use Rattle.dconf_path.specs.Paths.{directory_text}
use Rattle.dconf_layers.specs.LayerSettings.{locks_of}
use Rattle.dconf_layers.specs.LayerRows.{locks_under}
use Rattle.dconf_layers.specs.TextSets.{with_texts}
use Rattle.dconf_layers.proofs.LockNameLaws.{lock_names}
use Rattle.dconf_layers.proofs.layer.Layer.add_locks.Given as goal

-- the locks before this one were added
abbrev pub invariant-loop-i : goal.invariant-loop-i
invariant-loop-i l = l.paths ≡ with_texts (locks_under (directory_text l.directory) (lock_names (locks_of l.self) l.i)) l.initial.paths

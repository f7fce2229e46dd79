use Rattle.std.proofs.Common.{◌≡◌, take, map}
use Rattle.dconf_layers.specs.Children.{seen_path}
use Rattle.dconfdb_calls.specs.Listed.{ended}
use Rattle.dconfdb_calls.proofs.below.paths_of.Given as goal

-- the paths so far
abbrev pub invariant-loop-key : goal.invariant-loop-key
invariant-loop-key l = l.all.items ≡ ended (map seen_path (take l.key-index l.keys))

use Rattle.std.proofs.Common.{◌≡◌, map, string_bytes, take}
use Rattle.dconf_path.specs.Profiles.{databases_of}
use Rattle.dconf_layers.specs.Children.{seen_path}
use Rattle.dconf_commands.specs.Below.{further_parts}
use Rattle.dconf_commands.proofs.below.key_parts.Given as goal

abbrev pub invariant-loop-key : goal.invariant-loop-key
invariant-loop-key l = string_bytes l.further ≡ further_parts (databases_of l.profile) l.engine (map seen_path (take l.key-index l.others))

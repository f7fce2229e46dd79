use Rattle.std.proofs.Common.{◌≡◌, map, string_bytes, take}
use Rattle.dconf_by_name.specs.LeftOut.{doubles_of}
use Rattle.dconf_by_name.proofs.left_out.doubles_of.Given as goal

abbrev pub invariant-loop-path : goal.invariant-loop-path
invariant-loop-path l = string_bytes l.text ≡ doubles_of (map (λ path. path.now) (take l.path-index l.paths))

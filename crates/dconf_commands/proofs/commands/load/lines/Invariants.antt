use Rattle.std.proofs.Common.{◌≡◌, map, string_bytes, take}
use Rattle.dconf_model.specs.Outcomes.{lines_text}
use Rattle.dconf_commands.proofs.commands.load.lines.Given as goal

abbrev pub invariant-loop-path : goal.invariant-loop-path
invariant-loop-path l = string_bytes l.lines ≡ lines_text (map (λ path. path.now) (take l.path-index l.paths))

use Rattle.std.proofs.Common.{◌≡◌, map, string_bytes, take}
use Rattle.dconf_model.specs.Outcomes.{lines_text}
use Rattle.dconf_commands.proofs.commands.list.lines.Given as goal

abbrev pub invariant-loop-text : goal.invariant-loop-text
invariant-loop-text l = string_bytes l.lines ≡ lines_text (map string_bytes (take l.text-index l.texts))

use Rattle.std.proofs.Common.{◌≡◌, ◌∷◌, [], map, take}
use Rattle.std.specs.Prelude.{flat_map}
use Rattle.json.specs.Token.{begin_object}
use Rattle.dconf_layers.specs.Children.{seen_row}
use Rattle.dconf_json.specs.Lines.{member_tokens}
use Rattle.dconf_json.proofs.lines.members_line.Given as goal

abbrev pub invariant-loop-key : goal.invariant-loop-key
invariant-loop-key l = (l.writer.before ≡ []) × (l.writer.tokens ≡ begin_object ∷ flat_map (member_tokens l.skips) (map seen_row (take l.key-index l.keys)))

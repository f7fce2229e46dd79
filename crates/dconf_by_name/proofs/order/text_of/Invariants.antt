use Rattle.std.proofs.Common.{◌≡◌, ◌++◌, [], map, drop, string_bytes}
use denote.Shadow.{shadow}
use denote.Text.{Utf8}
use Rattle.dconf_by_name.specs.Dumps.{text_after}
use Rattle.dconf_by_name.specs.Meant.{line_meant}
use Rattle.dconf_by_name.proofs.order.text_of.Given as goal

abbrev pub invariant-loop-line : goal.invariant-loop-line
invariant-loop-line l =
    shadow (Utf8 l.before)
    × (string_bytes l.text ++ text_after l.before (map line_meant (drop l.line-index l.lines)) ≡ text_after [] (map line_meant l.lines))

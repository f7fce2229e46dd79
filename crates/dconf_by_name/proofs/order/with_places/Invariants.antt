use Rattle.std.proofs.Common.{◌≡◌, ◌++◌, [], map, drop}
use denote.Shadow.{shadow}
use denote.Text.{Utf8}
use Rattle.dconf_by_name.specs.Dumps.{lines_below}
use Rattle.dconf_by_name.specs.Meant.{placed_meant}
use Rattle.dconf_by_name.proofs.order.with_places.Given as goal

abbrev pub invariant-loop-text : goal.invariant-loop-text
invariant-loop-text l =
    shadow (Utf8 l.heading)
    × (map placed_meant l.all.items ++ lines_below l.heading (map (λ text. text.now) (drop l.text-index l.texts)) ≡ lines_below [] (map (λ text. text.now) l.texts))

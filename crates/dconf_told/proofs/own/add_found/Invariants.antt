use Rattle.std.proofs.Common.{◌≡◌, drop, map}
use Rattle.dconf_layers.specs.Children.{seen_path}
use Rattle.dconf_layers.specs.TextSets.{with_texts}
use Rattle.dconf_told.proofs.own.add_found.Given as goal

-- what is left to add gives what all give
abbrev pub invariant-loop-key : goal.invariant-loop-key
invariant-loop-key l = with_texts (map seen_path (drop l.key-index l.found)) l.keys ≡ with_texts (map seen_path l.found) l.initial.keys

use Rattle.std.proofs.Common.{◌≡◌, drop, map}
use Rattle.std.specs.FinMap.{empty}
use Rattle.std.specs.Prelude.{string_bytes}
use Rattle.dconf_layers.specs.TextSets.{with_texts}
use Rattle.dconf_told.specs.Relocking.{left_of, outermost}
use Rattle.dconf_told.proofs.relocking.outermost.Given as goal

-- what is left to add gives what all give
abbrev pub invariant-loop-path : goal.invariant-loop-path
invariant-loop-path l =
    with_texts (left_of (map string_bytes l.paths) (map string_bytes (drop l.path-index l.paths))) l.left
    ≡ with_texts (outermost (map string_bytes l.paths)) empty

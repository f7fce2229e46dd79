use Rattle.std.proofs.Common.{◌≡◌, drop, map}
use Rattle.std.specs.Prelude.{filter, string_bytes}
use Rattle.dconf_layers.specs.TextSets.{with_texts}
use Rattle.dconf_told.specs.Relocking.{other_beside}
use Rattle.dconf_told.proofs.relocking.add_others.Given as goal

-- what is left to add gives what all give
abbrev pub invariant-loop-path : goal.invariant-loop-path
invariant-loop-path l =
    with_texts (filter (other_beside l.before l.after) (map string_bytes (drop l.path-index l.paths))) l.others
    ≡ with_texts (filter (other_beside l.before l.after) (map string_bytes l.paths)) l.initial.others

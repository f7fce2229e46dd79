use Rattle.std.proofs.Common.{◌≡◌, drop, map}
use Rattle.std.specs.FinMap.{empty}
use Rattle.dconf_layers.specs.LayerSettings.{settings_of}
use Rattle.dconf_layers.specs.TextSets.{with_texts}
use Rattle.dconf_told.specs.Own.{each_of, own_of}
use Rattle.dconf_told.proofs.own.own_keys.Given as goal

-- what is left to add gives what all edits are of
abbrev pub invariant-loop-edit : goal.invariant-loop-edit
invariant-loop-edit l =
    with_texts (own_of (map settings_of l.before) (map settings_of l.after) (each_of (drop l.edit-index l.edits))) l.keys
    ≡ with_texts (own_of (map settings_of l.before) (map settings_of l.after) (each_of l.edits)) empty

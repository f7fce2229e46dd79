use Rattle.std.proofs.Common.{◌∙◌, ap, drop, sym, List}
use Rattle.std.specs.List.{list_any}
use Rattle.dconf_layers.specs.declared.layer.Layer.{Layer}
use Rattle.dconf_layers.specs.LayerSettings.{has_locks}
use Rattle.dconf_layers.proofs.LocksLaws.{nothing_locked, unlocked_level}
use Rattle.dconf_layers.proofs.lent.LentLayers.have_locks.Goals as goal

pub returns-in-Some-clause-unlocked : goal.returns-in-Some-clause-unlocked
returns-in-Some-clause-unlocked c none path key =
    unlocked_level c.args.self.layers.now c.args.self.writable path key
    (ap (λ (l : List Layer). list_any has_locks (drop 1 l)) c.in-Some.ensures.cases.0 ∙ (sym c.any_has_locks.ensures ∙ none))

pub returns-in-None-clause-unlocked : goal.returns-in-None-clause-unlocked
returns-in-None-clause-unlocked c none path key = nothing_locked c.args.self.layers.now c.args.self.writable path c.in-None.ensures.cases

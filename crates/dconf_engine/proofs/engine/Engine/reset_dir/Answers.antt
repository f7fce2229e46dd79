use Rattle.std.proofs.Common.{◌≡◌, ◌∙◌, sym, ap, rules, true, List, Ok, map}
use Rattle.std.specs.FinMap.{entries, retain_keys}
use Rattle.dconf_path.specs.Paths.{directory_text}
use Rattle.dconf_model.specs.Changes.{Values, changed, with_first_layer}
use Rattle.dconf_model.specs.Layers.{Layers}
use Rattle.dconf_model.specs.Settings.{Settings}
use Rattle.dconf_layers.specs.declared.layer.Layer.{Layer}
use Rattle.dconf_engine.specs.Cleared.{keeps, cleared, changed_paths, first_paths}
use Rattle.dconf_layers.specs.LayerSettings.{settings_of}
use Rattle.dconf_engine.specs.Unsaved.{Unsaved, and_resets, with_changes}
use Rattle.dconf_engine.proofs.ClearedLaws.{reset_all, reset_layers, reset_dir_accepted}
use Rattle.dconf_engine.proofs.engine.Engine.reset_dir.Goals as goal

pub returns-clause-ok : goal.returns-clause-ok
returns-clause-ok c =
    let i = c.self.inside in
    let l = c.args.self.now in
    let d = directory_text c.args.directory in
    let items = i.layers.items in
    let writable : l.writable ≡ true = search rules in
    let f : Values → Values = (λ v. retain_keys v (keeps l d)) in
    let made : c.reset_first.new.changes ≡ reset_all l d i.changes (first_paths items) =
    c.in_ok-reset_first.ensures
    ∙ (ap (λ (ls : List Layer). and_resets (cleared l d (first_paths ls)) c.reset_changed.new.changes) c.deref.ensures.value
    ∙ ap (and_resets (cleared l d (first_paths items)))
    (c.in_ok-reset_changed.ensures ∙ ap (and_resets (cleared l d (changed_paths (entries i.changes)))) c.in_ok-changes.ensures)) in
    reset_dir_accepted l d writable
    ∙ (ap (λ (m : Layers). Ok (changed f m)) (sym c.self.view_is)
    ∙ ap (λ (ls : List Settings). Ok (record { layers = ls; writable = i.writable }))
    (reset_layers l d i.changes items ∙ ap (λ (u : Unsaved). with_first_layer (with_changes u) (map settings_of items)) (sym made)))

pub returns-then-not-is_writable-clause-fault : goal.returns-then-not-is_writable-clause-fault
returns-then-not-is_writable-clause-fault c = search rules

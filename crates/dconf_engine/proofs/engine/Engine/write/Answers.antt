use Rattle.std.proofs.Common.{◌∙◌, ap, List, ℕ, Ok, Some}
use Rattle.std.specs.FinMap.{insert}
use Rattle.dconf_path.specs.Paths.{key_text}
use Rattle.dconf_model.specs.Values.{stored}
use Rattle.dconf_model.specs.Layers.{Layers}
use Rattle.dconf_engine.specs.Unsaved.{Unsaved, with_changes}
use Rattle.dconf_engine.proofs.UnsavedLaws.{set_more}
use Rattle.dconf_engine.proofs.WritingLaws.{write_accepted, changed_beside}
use Rattle.dconf_engine.proofs.engine.Engine.write.Goals as goal

pub returns-clause-ok : goal.returns-clause-ok
returns-clause-ok c =
    let i = c.self.inside in
    let l = c.args.self.now in
    let p = key_text c.args.path in
    let bytes = stored c.args.value.now in
    write_accepted l p c.args.value.now c.in_ok-check_path.ensures.ok c.in_ok-bytes.ensures.storable
    ∙ ap (λ (l : Layers). Ok l) (changed_beside (λ m. insert m p bytes) i.changes c.set.new.self i.layers.items i.writable l c.self.view_is (λ v.
    ap (λ (u : Unsaved). with_changes u v) (c.in_ok-set.ensures.ok ∙ ap (λ (b : List ℕ). insert i.changes p (Some b)) c.in_ok-bytes.ensures.bytes) ∙ set_more i.changes v p bytes))

use Rattle.std.proofs.Common.{◌∙◌, ap, Ok}
use Rattle.std.specs.FinMap.{remove}
use Rattle.dconf_path.specs.Paths.{key_text}
use Rattle.dconf_model.specs.Layers.{Layers}
use Rattle.dconf_engine.specs.Unsaved.{Unsaved, with_changes}
use Rattle.dconf_engine.proofs.UnsavedLaws.{reset_more}
use Rattle.dconf_engine.proofs.WritingLaws.{reset_accepted, changed_beside}
use Rattle.dconf_engine.proofs.engine.Engine.reset.Goals as goal

pub returns-clause-ok : goal.returns-clause-ok
returns-clause-ok c =
    let i = c.self.inside in
    let l = c.args.self.now in
    let p = key_text c.args.path in
    reset_accepted l p c.in_ok-check_path.ensures.ok
    ∙ ap (λ (l : Layers). Ok l) (changed_beside (λ m. remove m p) i.changes c.reset.new.self i.layers.items i.writable l c.self.view_is (λ v.
    ap (λ (u : Unsaved). with_changes u v) c.in_ok-reset.ensures.ok ∙ reset_more i.changes v p))

use Rattle.std.proofs.Common.{◌≡◌, ◌∙◌, ap, sym, refl, Option, Some, None, option_map}
use Rattle.std.specs.Borrow.{Bor}
use Rattle.dconf_engine.specs.declared.changes.Edit.{Edit}
use Rattle.dconf_engine.specs.Unsaved.{edit_bytes, Unsaved}
use Rattle.std.specs.FinMap.{get}
use Rattle.dconf_engine.proofs.TextMapLaws.{get_at_texts}
use Rattle.dconf_engine.proofs.changes.Changes.get.Goals as goal

of_lent : (o : Option (Bor Edit)) → option_map (λ (e : Bor Edit). edit_bytes e.now) o ≡ option_map edit_bytes (option_map (λ (e : Bor Edit). e.now) o)
of_lent (Some e) = refl
of_lent None = refl

pub returns : goal.returns
returns c =
    let m = c.self.inside.edits in
    let path = c.args.path.now in
    of_lent c.get.result ∙ ap (option_map edit_bytes) c.get.ensures.value ∙ sym (get_at_texts edit_bytes m path) ∙ ap (λ (u : Unsaved). get u path) c.self.view_is

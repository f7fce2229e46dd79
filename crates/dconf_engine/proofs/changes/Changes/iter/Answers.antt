use Rattle.std.proofs.Common.{◌≡◌, ◌∙◌, ap, sym, subst, List, ℕ, Option}
use Rattle.std.specs.FinMap.{entries}
use Rattle.dconf_engine.specs.Unsaved.{edit_bytes, Unsaved}
use Rattle.dconf_engine.specs.TextMaps.{entries_by, at_texts, AreAtKeyPaths}
use Rattle.dconf_engine.proofs.TextMapLaws.{entries_at_texts, each_at_keys}
use Rattle.dconf_engine.proofs.changes.Changes.iter.Goals as goal

pub invariant_of-result : goal.invariant_of-result
invariant_of-result c =
    let m = c.self.inside.edits in
    let listed : entries_by edit_bytes c.iter-rest.result ≡ entries (at_texts edit_bytes m) = ap (entries_by edit_bytes) c.iter-rest.ensures.rest ∙ sym (entries_at_texts edit_bytes m c.iter-rest.ensures.ordered) in
    record { are_paths = subst (λ (es : List (List ℕ × Option (List ℕ))). AreAtKeyPaths es) (sym listed) (each_at_keys (at_texts edit_bytes m) c.self.invariant) }

pub returns : goal.returns
returns c =
    let m = c.self.inside.edits in
    ap (entries_by edit_bytes) c.iter-rest.ensures.rest ∙ sym (entries_at_texts edit_bytes m c.iter-rest.ensures.ordered) ∙ ap (λ (u : Unsaved). entries u) c.self.view_is

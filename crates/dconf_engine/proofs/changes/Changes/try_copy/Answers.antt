use Rattle.std.proofs.Common.{◌∙◌, ap, sym, subst, List, ℕ, Option}
use Rattle.std.specs.FinMap.{from_entries}
use Rattle.dconf_engine.specs.Unsaved.{edit_bytes}
use Rattle.dconf_engine.specs.TextMaps.{IsAtKeys}
use Rattle.dconf_engine.proofs.TextMapLaws.{same_clones}
use Rattle.dconf_engine.proofs.changes.Changes.try_copy.Goals as goal

pub invariant_of-result : goal.invariant_of-result
invariant_of-result c =
    let same = same_clones edit_bytes c.self.inside.edits.entries c.in_ok-edits.edits.entries c.in_ok-edits.ensures.cases in
    subst (λ (es : List (List ℕ × Option (List ℕ))). IsAtKeys (from_entries es)) (sym same) c.self.invariant

pub returns : goal.returns
returns c =
    let same = same_clones edit_bytes c.self.inside.edits.entries c.in_ok-edits.edits.entries c.in_ok-edits.ensures.cases in
    ap (λ (es : List (List ℕ × Option (List ℕ))). from_entries es) same ∙ c.self.view_is

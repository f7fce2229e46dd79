use Rattle.std.proofs.Common.{List, ℕ, Option, subst, sym}
use Rattle.std.specs.declared.alloc.Global.{Global}
use Rattle.std.specs.declared.string.String.{String}
use Rattle.std.specs.FinMap.{from_entries}
use Rattle.dconf_engine.specs.declared.changes.Edit.{Edit}
use Rattle.dconf_engine.specs.Unsaved.{edit_bytes}
use Rattle.dconf_engine.specs.TextMaps.{entries_by, IsAtKeys}
use Rattle.dconf_engine.proofs.TextMapLaws.{nothing_at_keys}
use Rattle.dconf_engine.proofs.changes.Changes.new.Goals as goal

pub invariant_of-result : goal.invariant_of-result
invariant_of-result c =
    subst (λ (es : List (String Global × Edit)). IsAtKeys (from_entries (entries_by edit_bytes es))) (sym c.new-edits.ensures.empty) (nothing_at_keys (Option (List ℕ)))

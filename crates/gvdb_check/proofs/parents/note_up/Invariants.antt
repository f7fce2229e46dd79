use Rattle.std.proofs.Common.{ℕ, List, ◌<◌}
use Rattle.dconf_model.specs.Table.{item_count}
use Rattle.dconf_model.specs.Searchable.{LeadsUp}
use Rattle.dconf_model.specs.Sound.{KeepsAll}
use Rattle.dconf_model.specs.Sound.Rule.{chain}
use Rattle.gvdb_check.specs.NotedItems.{AreLong, DoEnd, IsLong}
use Rattle.gvdb_format.specs.Tables.{region}
use Rattle.gvdb_check.proofs.parents.note_up.Given as goal

-- what is noted is so, and what is to be noted of the item at hand
abbrev pub invariant-loop : goal.invariant-loop
invariant-loop l = record {
  counted : l.at < item_count (region l.fn.table);
  ends : (parents : List ℕ) × LeadsUp (region l.fn.table) l.at parents;
  noted : DoEnd (region l.fn.table) l.fn.noted → DoEnd (region l.fn.table) l.noted;
  lens : KeepsAll (region l.fn.table) chain → IsLong (region l.fn.table) l.fn.i l.fn.len → AreLong (region l.fn.table) l.fn.noted
      → IsLong (region l.fn.table) l.at l.len × AreLong (region l.fn.table) l.noted;
}

-- The items that full names go through.
use Rattle.std.specs.Prelude.{ℕ, ◌≡◌, ◌<◌, length, Some}
use Rattle.dconf_model.specs.Table.{Table, item, key}
use Rattle.dconf_model.specs.Names.{IsItem}

-- an item that takes a byte of a full name, where it has a parent
pub record MayLead (t : Table) (i : ℕ) : Type 0 where
  pub here : IsItem t i
  pub takes : (p : ℕ) → (item t i).parent ≡ Some p → 0 < length (key t i)

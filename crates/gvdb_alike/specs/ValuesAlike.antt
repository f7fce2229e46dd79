-- The bytes of an item, if it is a value, and whether another table has them at the same name.
use Rattle.std.specs.Prelude.{◌≡◌, ◌<◌, ◌≤◌, ◌⊎◌, ℕ, List, Option, Some, None, ◌==◌, if◌then◌else◌}
use Rattle.dconf_model.specs.Table.{Table, bytes_of, item, item_count, value_kind}
use Rattle.gvdb_alike.specs.NamesAlike.{GoesByName}

abbrev pub value_at : Table → ℕ → Option (List ℕ)
value_at t i = if (item t i).kind == value_kind then Some (bytes_of t i) else None

-- an item of the other table has the same name, and the same bytes or none
pub record HasElsewhere (t : Table) (i : ℕ) (u : Table) : Type 0 where
  pub at : ℕ
  pub counted : at < item_count u
  pub named : GoesByName t i u at
  pub value : value_at t i ≡ value_at u at

-- items below the first and from the end on are values of the same bytes, or no values both times
pub record AreAlikeOutside (t u : Table) (first end : ℕ) : Type 0 where
  pub ordered : first ≤ end
  pub counted : end ≤ item_count t
  pub alike : (i : ℕ) → i < item_count t → (i < first) ⊎ (end ≤ i) → value_at t i ≡ value_at u i

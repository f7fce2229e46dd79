-- Full names, joined from the parent's and the item's own key.
use Rattle.std.specs.Prelude.{ℕ, ◌≤◌, ◌<◌, ◌≡◌, List, [], ◌++◌, length, Option, Some, None}
use Rattle.std.specs.Option.{ForSome}
use Rattle.dconf_model.specs.Table.{Table, item, item_count, key}
use Rattle.dconf_model.specs.Names.{full_name}
use Rattle.dconf_model.specs.Searchable.{EachItem}

-- the full name of a parent
abbrev pub above : Table → Option ℕ → List ℕ
above t None = []
above t (Some p) = full_name t p

-- the item's full name is its parent's, and then its own key
pub record IsJoined (t : Table) (i : ℕ) : Type 0 where
  pub inside : (item t i).key_end ≤ length t.file
  pub some : 0 < length (key t i)
  pub parent : ForSome (item t i).parent (λ p. p < item_count t)
  pub name : full_name t i ≡ above t (item t i).parent ++ key t i

abbrev pub HasNames : Table → Type 0
HasNames t = EachItem t (IsJoined t)

-- Tables whose items have the same names, each at its place.
use Rattle.std.specs.Prelude.{◌≡◌, ◌≤◌, ◌<◌, ℕ, List, length}
use Rattle.dconf_model.specs.Names.{HasName, IsItem, name_of}
use Rattle.dconf_model.specs.Table.{Table, item, item_count, key}

-- item i of both has the same key and the same parent
pub record AreStepsAlike (t u : Table) (i : ℕ) : Type 0 where
  pub parent : (item t i).parent ≡ (item u i).parent
  pub inside : (item t i).key_end ≤ length t.file
  pub also_inside : (item u i).key_end ≤ length u.file
  pub key : key t i ≡ key u i

-- both have as many items, of the same names
pub record AreNamedAlike (t u : Table) : Type 0 where
  pub counted : item_count t ≡ item_count u
  pub named : (i : ℕ) → name_of t i ≡ name_of u i

-- item j of the other has each name of item i: an item has one at most
abbrev pub GoesByName : Table → ℕ → Table → ℕ → Type 0
GoesByName t i u j = (name : List ℕ) → HasName t i name → HasName u j name

-- both have the same key, which isn't empty
pub record HasSameKey (t : Table) (i : ℕ) (u : Table) (j : ℕ) : Type 0 where
  pub there : IsItem u j
  pub some : 0 < length (key u j)
  pub key : key t i ≡ key u j

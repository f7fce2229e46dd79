-- Hashes that go on from those of the parents.
use Rattle.std.specs.Prelude.{ℕ, ◌≡◌, [], Option, Some, None, fold}
use Rattle.dconf_model.specs.Bytes.{hash_of, hash_step}
use Rattle.dconf_model.specs.Table.{Table, item, key}

-- the stored hash of a parent; where there is none, that of no bytes
abbrev pub hash_above : Table → Option ℕ → ℕ
hash_above t None = hash_of []
hash_above t (Some p) = (item t p).hash

-- the item's stored hash is its parent's, gone on with over its own key
abbrev pub GoesOn : Table → ℕ → Type 0
GoesOn t i = (item t i).hash ≡ fold hash_step (hash_above t (item t i).parent) (key t i)

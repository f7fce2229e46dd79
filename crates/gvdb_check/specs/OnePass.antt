-- What one pass over the items sees of each.
use Rattle.std.specs.Prelude.{ℕ, ◌%◌, ◌≤◌, ◌<◌, ◌≡◌, ◌≢◌, List, length}
use Rattle.dconf_model.specs.Table.{Table, item, item_count, key, list_kind, table_kind, table_of}
use Rattle.dconf_model.specs.Names.{HasName}
use Rattle.dconf_model.specs.Search.{span_start}
use Rattle.dconf_model.specs.Searchable.{HasContent, IsInBloom, IsInSpan, IsOnlyNamed}
use Rattle.dconf_model.specs.Sound.{IsLockTable}
use Rattle.gvdb_check.specs.PlainKey.{KeyKeeps}

-- no lower item of its bucket has the item's hash
abbrev pub HasOwnHash : Table → ℕ → Type 0
HasOwnHash t i = (j : ℕ) → j < i → span_start t (item t i).hash ≤ j → (item t j).hash ≢ (item t i).hash

-- each item whose hash is in this part is the only one of its name
abbrev pub OnlyNamedInPart : Table → ℕ → ℕ → Type 0
OnlyNamedInPart t part parts = (i : ℕ) → i < item_count t → (item t i).hash % parts ≡ part → IsOnlyNamed t i

-- the item has a full name of at most so many bytes
abbrev pub HasNameWithin : ℕ → Table → ℕ → Type 0
HasNameWithin most t i = (name : List ℕ) × HasName t i name × (length name ≤ most)

-- the name of a directory has at most 1,023 bytes, and a key 64,512: together a full name's 65,535
pub record ItemKeeps (t : Table) (i : ℕ) : Type 0 where
  pub key_keeps : KeyKeeps t i
  pub in_span : IsInSpan t i
  pub in_bloom : IsInBloom t i
  pub content : HasContent t i
  pub locks : (item t i).kind ≡ table_kind → IsLockTable (table_of t i)
  pub some_key : 0 < length (key t i)
  pub short_key : length (key t i) ≤ 64512
  pub own_hash : HasOwnHash t i
  pub near_top : (item t i).kind ≡ list_kind → HasNameWithin 1023 t i

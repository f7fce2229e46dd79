-- Full names: the keys along an item's parents, the root's first. And rows: what a table says of names, kinds and
-- bytes. There is no word of hashes, buckets and bloom words here.
use Rattle.std.specs.Prelude.{ℕ, zero, suc, ◌≤◌, ◌<◌, ◌≡◌, List, [], ◌∷◌, ◌++◌, length, Option, Some, None, if◌then◌else◌, nat_le, nat_lt, option_map, ◌&&◌}
use Rattle.std.specs.Option.{unwrap_or}
use Rattle.dconf_model.specs.Table.{Table, item, item_count, key, HasBytes, bytes_of}

-- an item whose key bytes lie in the file
pub record IsItem (t : Table) (i : ℕ) : Type 0 where
  pub counted : i < item_count t
  pub key_inside : (item t i).key_end ≤ length t.file

-- These are the item's parents, up to one without parent. Each item with a parent has a key.
abbrev pub HasParents : Table → ℕ → List ℕ → Type 0
HasParents t i [] = IsItem t i × ((item t i).parent ≡ None)
HasParents t i (p ∷ ps) = IsItem t i × ((item t i).parent ≡ Some p) × (0 < length (key t i)) × HasParents t p ps

-- the keys along them, the last parent's first
abbrev pub joined : Table → ℕ → List ℕ → List ℕ
joined t i [] = key t i
joined t i (p ∷ ps) = joined t p ps ++ key t i

-- the item's full name: its parents end, and their keys and its own are joined to the name
pub record HasName (t : Table) (i : ℕ) (name : List ℕ) : Type 0 where
  pub parents : List ℕ
  pub chain : HasParents t i parents
  pub spelled : joined t i parents ≡ name

-- item i is a row: it has this full name and kind, and a valid pointer
pub record IsRow (t : Table) (name : List ℕ) (kind : ℕ) (i : ℕ) : Type 0 where
  pub named : HasName t i name
  pub of_kind : (item t i).kind ≡ kind
  pub valid : HasBytes t i

-- the table has a row of this name and kind with these bytes
abbrev pub Rows : Table → List ℕ → ℕ → List ℕ → Type 0
Rows t name kind bytes = (i : ℕ) × IsRow t name kind i × (bytes_of t i ≡ bytes)

-- The same name, computed. The name of an item whose parent is this, where above gives the parent's:
abbrev pub name_by : (ℕ → Option (List ℕ)) → Table → ℕ → Option ℕ → Option (List ℕ)
name_by above t i None = Some (key t i)
name_by above t i (Some p) =
    if nat_lt 0 (length (key t i)) then option_map (λ prefix. prefix ++ key t i) (above p) else None

-- where at most n items lead to one without parent
abbrev pub name_within : ℕ → Table → ℕ → Option (List ℕ)
name_within zero t i = None
name_within (suc n) t i =
    if nat_lt i (item_count t) && nat_le (item t i).key_end (length t.file)
    then name_by (name_within n t) t i (item t i).parent
    else None

-- as many as there are items are enough
abbrev pub name_of : Table → ℕ → Option (List ℕ)
name_of t i = name_within (item_count t) t i

-- the name of an item that has one
unfoldable pub full_name : Table → ℕ → List ℕ
full_name t i = unwrap_or (name_of t i) []

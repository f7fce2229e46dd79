-- What a search of a table answers; values whose names end in a slash, as those of directories do.
use Rattle.std.specs.Prelude.{ℕ, ◌≡◌, List, Some, slice_get, ◌<◌, ◌≤◌, IsTrue, length, take}
use Rattle.gv_model.specs.Ty.Ty.{variant}
use Rattle.gv_model.specs.Tree.{children, tree_at}
use Rattle.gv_model.specs.Decode.{cut, decode}
use Rattle.gv_view.specs.declared.view.View.{View}
use Rattle.gv_view.specs.Views.{Lends, value}
use Rattle.dconf_model.specs.Table.{Table as Region, bytes_of, item as item_of, value_kind, list_kind, table_kind, table_of, Opens, item, key}
use Rattle.dconf_model.specs.Search.{Finds}
use Rattle.dconf_model.specs.Listed.{keys_in_list, listed_keys}
use Rattle.dconf_model.specs.Sound.{list_length}
use Rattle.gvdb_read.specs.declared.item_list.ItemList.{ItemList}
use Rattle.gvdb_read.specs.Tables.{region}
use Rattle.gvdb_read.specs.declared.names.Names.{Names}
use Rattle.gvdb_read.specs.declared.hashed_name.HashedName.{HashedName}
use Rattle.dconf_model.specs.Locks.{covers}
use Rattle.dconf_model.specs.Names.{IsItem}
use Rattle.dconf_model.specs.Paths.{ends_with_slash}

-- a search finds an item
abbrev pub IsFound : Region → List ℕ → ℕ → Type 0
IsFound t name kind = (i : ℕ) × Finds t name kind (Some i)

-- the bytes of the value that is found
abbrev pub IsValueOf : Region → List ℕ → List ℕ → Type 0
IsValueOf t name bytes = (i : ℕ) × Finds t name value_kind (Some i) × (bytes ≡ bytes_of t i)

-- the view shows what a variant of these bytes holds
pub record ShowsHeld (bytes : List ℕ) (view : View) : Type 0 where
  pub lends : Lends bytes (slice_get (cut variant bytes) 0) (Some view)
  pub value : tree_at (children (decode variant bytes)) 0 ≡ Some (value view)

-- a view of the value that is found
abbrev pub IsViewOf : Region → List ℕ → View → Type 0
IsViewOf t name view = (bytes : List ℕ) × IsValueOf t name bytes × ShowsHeld bytes view

-- the keys of the list that is found
abbrev pub IsListOf : Region → List ℕ → List (List ℕ) → Type 0
IsListOf t name keys = (i : ℕ) × Finds t name list_kind (Some i) × (keys ≡ keys_in_list t i)

-- the list that is found
pub record IsItemListOf (t : Region) (name : List ℕ) (list : ItemList) : Type 0 where
  pub item : ℕ
  pub found : Finds t name list_kind (Some item)
  pub in_file : list.file.now ≡ t.file
  pub starts : list.at ≡ (item_of t item).start
  pub as_long : list.len ≡ list_length t item

-- the table that is found, and opens
abbrev pub IsTableAt : Region → List ℕ → Region → Type 0
IsTableAt t name u = (i : ℕ) × Finds t name table_kind (Some i) × Opens (table_of t i) × (u ≡ table_of t i)

abbrev pub names_left : Names → List (List ℕ)
names_left n = listed_keys (region n.table) n.at n.left

abbrev pub name_text : HashedName → List ℕ
name_text name = name.bytes.now

-- the item is a value's, and its key, which the name ends with, ends in a slash
pub record IsDirectoryValue (t : Region) (i : ℕ) : Type 0 where
  pub is_item : IsItem t i
  pub of_kind : (item t i).kind ≡ value_kind
  pub ends : IsTrue (ends_with_slash (key t i))

abbrev pub HasDirectoryValue : Region → Type 0
HasDirectoryValue t = (i : ℕ) × IsDirectoryValue t i

-- the first n bytes of the path, of which there are some, cover it and are the name of a value
pub record IsCover (t : Region) (path : List ℕ) (n : ℕ) : Type 0 where
  pub some : 0 < n
  pub within : n ≤ length path
  pub covering : IsTrue (covers (take n path) path)
  pub found : IsFound t (take n path) value_kind

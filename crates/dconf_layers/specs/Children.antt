-- What a directory has in layers: the names that their lists have, and with a key the first layer that has it; and what is seen at
-- the keys below it.
use Rattle.std.specs.Prelude.{◌≡◌, ◌==◌, ℕ, List, Option, Some, None, IsTrue, ◌++◌, map, option_map, if◌then◌else◌, string_bytes}
use Rattle.std.specs.Borrow.{Bor}
use Rattle.std.specs.List.{find, list_any}
use Rattle.std.specs.Str.{bytes_eq}
use Rattle.dconf_model.specs.Layers.{Place, all_paths, first_from, parts_below, Layers, visible_bytes}
use Rattle.dconf_model.specs.Paths.{first_part, is_key_path}
use Rattle.dconf_model.specs.Settings.{Settings}
use Rattle.dconf_model.specs.Table.{Table, bytes_of, item, key, value_kind}
use Rattle.dconf_layers.specs.declared.children.Child.{Child}
use Rattle.dconf_layers.specs.declared.seen.SeenKey.{SeenKey}

-- a name, and of a key a layer that has it, and the bytes that it has there
abbrev pub ChildRow : Type 0
ChildRow = List ℕ × Option Place

abbrev pub place_shown : Option (ℕ × Bor (List ℕ)) → Option Place
place_shown place = option_map {U = ℕ × List ℕ} (λ p. (p.0, p.1.now)) place

abbrev pub child_name : Child → List ℕ
child_name child = child.name.now

abbrev pub child_row : Child → ChildRow
child_row child = (child.name.now, place_shown child.place)

-- item i of the table of a layer of this index
abbrev pub item_row : ℕ → Table → ℕ → ChildRow
item_row index t i = (key t i, if (item t i).kind == value_kind then Some (index, bytes_of t i) else None)

abbrev pub names_of : List ChildRow → List (List ℕ)
names_of rows = map {B = List ℕ} (λ row. row.0) rows

-- the first of a name
abbrev pub found_row : List ℕ → List ChildRow → Option ChildRow
found_row name rows = find (λ row. bytes_eq name row.0) rows

abbrev pub row_found : List ℕ → Option Place → Option ChildRow
row_found name place = option_map {U = ChildRow} (λ p. (name, Some p)) place

-- The rows name what the directory has in these layers, of which the first has this index; and the first row of a key has the
-- first of them that has the key.
pub record AreChildren (index : ℕ) (layers : List Settings) (directory : List ℕ) (rows : List ChildRow) : Type 0 where
  pub names : (part : List ℕ) → list_any (bytes_eq part) (names_of rows) ≡ list_any (bytes_eq part) (parts_below directory (all_paths layers))
  pub keys : (name : List ℕ) → first_part name ≡ name → IsTrue (is_key_path (directory ++ name)) → found_row name rows ≡ row_found name (first_from index layers (directory ++ name))

-- a path, and the bytes that are seen there
abbrev pub seen_row : SeenKey → List ℕ × Option (List ℕ)
seen_row key = (string_bytes key.path, option_map (λ bytes. bytes.now) key.bytes)

abbrev pub shown_at : Layers → List ℕ → List ℕ × Option (List ℕ)
shown_at l path = (path, visible_bytes l path)

abbrev pub seen_path : SeenKey → List ℕ
seen_path key = string_bytes key.path

-- at the path of a key
abbrev pub IsShown : Layers → SeenKey → Type 0
IsShown l key = IsTrue (is_key_path (seen_path key)) → option_map (λ bytes. bytes.now) key.bytes ≡ visible_bytes l (seen_path key)

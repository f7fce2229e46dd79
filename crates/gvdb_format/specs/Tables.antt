-- What a table and an item of it stand for.
use Rattle.std.specs.Prelude.{ℕ, ◌+◌, ◌≡◌, ◌≤◌, ◌<◌, List, length, Option, Some, None, slice_range}
use Rattle.std.specs.Borrow.{Bor}
use Rattle.dconf_model.specs.Table.{Item, item, item_count, key, HasBytes, IsValidPointer, alignment_of, bytes_of, table_kind, table_of, Opens, Table as Region}
use Rattle.gvdb_format.specs.declared.raw_table.RawTable.{RawTable}
use Rattle.gvdb_format.specs.declared.record.ItemRecord.{ItemRecord}
use Rattle.gvdb_format.specs.declared.item.Item.{Item as Shown}

-- where in its file the table lies
abbrev pub region : RawTable → Region
region t = record { file = t.file.now; start = t.start; end = t.end }

-- an item as it is stored
abbrev pub item_of : ItemRecord → Item
item_of s = record {
  hash = s.hash;
  parent = s.parent;
  key_start = s.key_start;
  key_end = s.key_start + s.key_size;
  kind = s.kind;
  start = s.start;
  end = s.end;
}

-- its key's bytes lie in the file, and are these
abbrev pub IsKeyInside : List ℕ → Item → Type 0
IsKeyInside file it = it.key_end ≤ length file

abbrev pub key_at : List ℕ → Item → List ℕ
key_at file it = slice_range file it.key_start it.key_end

-- its pointer is valid, and points to these
abbrev pub IsPointer : List ℕ → Item → Type 0
IsPointer file it = IsValidPointer file (alignment_of it.kind) it.start it.end

abbrev pub content_at : List ℕ → Item → List ℕ
content_at file it = slice_range file it.start it.end

-- these bytes are lent where P holds, and else none
abbrev pub LendsWhere : Type 0 → List ℕ → Option (Bor (List ℕ)) → Type 0
LendsWhere P bytes None = ¬ P
LendsWhere P bytes (Some lent) = P × (lent.now ≡ bytes)

-- item i of the table is shown
pub record IsShownAs (t : Region) (i : ℕ) (shown : Shown) : Type 0 where
  pub counted : i < item_count t
  pub hash : shown.hash ≡ (item t i).hash
  pub parent : shown.parent ≡ (item t i).parent
  pub key : LendsWhere ((item t i).key_end ≤ length t.file) (key t i) shown.key
  pub kind : shown.kind ≡ (item t i).kind
  pub bytes : LendsWhere (HasBytes t i) (bytes_of t i) shown.bytes

-- item i points to a table that opens
pub record PointsToTable (t : Region) (i : ℕ) : Type 0 where
  pub counted : i < item_count t
  pub of_kind : (item t i).kind ≡ table_kind
  pub opens : Opens (table_of t i)

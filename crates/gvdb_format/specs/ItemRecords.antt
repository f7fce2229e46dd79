-- What an item's record stands for: the bytes that are written of it.
use Rattle.std.specs.Prelude.{ℕ, Option, Some, None, if◌then◌else◌, ◌==◌}
use Rattle.gvdb_format.specs.declared.record.ItemRecord.{ItemRecord as Numbers}
use Rattle.dconf_model.specs.TableBytes.{ItemRecord}

abbrev pub record_of : Numbers → ItemRecord
record_of r = record {
  hash = r.hash;
  parent = r.parent;
  key_start = r.key_start;
  key_size = r.key_size;
  kind = r.kind;
  start = r.start;
  end = r.end;
}

-- the parent for which a number stands
abbrev pub parent_of : ℕ → Option ℕ
parent_of number = if number == 4294967295 then None else Some number

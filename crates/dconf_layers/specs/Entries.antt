-- What entries are: rows of their layer.
use Rattle.std.specs.Prelude.{ℕ, List}
use Rattle.dconf_model.specs.Names.{full_name}
use Rattle.gvdb_read.specs.Tables.{region}
use Rattle.dconf_layers.specs.declared.entries.Entry.{Entry}
use Rattle.dconf_layers.specs.declared.entries.Entries.{Entries}
use Rattle.dconf_layers.specs.LayerRows.{rows_from}

-- its path and its bytes
abbrev pub entry_row : Entry → List ℕ × List ℕ
entry_row e = (full_name (region e.layer.values) e.index, e.bytes.now)

abbrev pub entries_left : Entries → List (List ℕ × List ℕ)
entries_left e = rows_from (region e.layer.values) e.next e.left

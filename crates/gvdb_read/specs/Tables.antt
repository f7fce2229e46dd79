-- What a table stands for.
use Rattle.dconf_model.specs.Table.{Table as Region}
use Rattle.gvdb_format.specs.Tables.{region as raw_region}
use Rattle.gvdb_read.specs.declared.table.Table.{Table}

-- where in its file the table lies
abbrev pub region : Table → Region
region t = raw_region t.raw

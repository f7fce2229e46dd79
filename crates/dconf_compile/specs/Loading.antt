-- The rows of a keyfile that are loaded below a directory.
use Rattle.std.specs.Prelude.{Bool, map, Result}
use Rattle.dconf_model.specs.Lines.{LineFault}
use Rattle.dconf_model.specs.Sources.{Loaded as TheLoaded}
use Rattle.dconf_compile.specs.declared.load.RowsBelow.{RowsBelow}
use Rattle.dconf_compile.specs.declared.load.Loaded.{Loaded}
use Rattle.dconf_compile.specs.PathedRows.{pathed_meant, rows_given, values_of}

-- what they give, or the first line at fault
abbrev pub rows_loaded : Bool → RowsBelow → Result TheLoaded LineFault
rows_loaded skip k = rows_given skip (map pathed_meant k.rows.items)

abbrev pub loaded_of : Loaded → TheLoaded
loaded_of l = record { rows = values_of l.values.items; left_out = map (λ path. path.now) l.left_out.items }

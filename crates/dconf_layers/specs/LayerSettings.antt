-- The settings of a layer: what its file says; and the layers that are seen where layers are lent.
use Rattle.std.specs.Prelude.{Bool, Option, is_some, map}
use Rattle.dconf_model.specs.Settings.{Settings}
use Rattle.dconf_model.specs.Databases.{settings_in}
use Rattle.gvdb_read.specs.declared.table.Table.{Table}
use Rattle.gvdb_read.specs.Tables.{region}
use Rattle.dconf_layers.specs.SoundTables.{locks_if}
use Rattle.dconf_layers.specs.declared.layer.Layer.{Layer}
use Rattle.dconf_model.specs.Layers.{Layers}
use Rattle.dconf_layers.specs.declared.lent.LentLayers.{LentLayers}

abbrev pub settings_of : Layer → Settings
settings_of layer = settings_in (region layer.values).file

-- its table of locks
abbrev pub locks_of : Layer → Option Table
locks_of layer = locks_if layer.has_locks layer.locks

abbrev pub has_locks : Layer → Bool
has_locks layer = is_some (locks_of layer)

abbrev pub seen_in : LentLayers → Layers
seen_in lent = record { layers = map settings_of lent.layers.now; writable = lent.writable }

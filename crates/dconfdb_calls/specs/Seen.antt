-- The layers that C lends, and a value that it is handed.
use Rattle.std.specs.Prelude.{◌≡◌, ℕ, List, Bool, Some, map, slice_get}
use Rattle.gv_model.specs.Tree.{Tree}
use Rattle.gv_model.specs.TypeText.{type_at}
use Rattle.gv_model.specs.Ty.{spelling}
use Rattle.gv_model.specs.Ty.Ty.{variant}
use Rattle.gv_model.specs.Children.{Child, child_bytes}
use Rattle.gv_model.specs.Decode.{cut, decode}
use Rattle.dconf_model.specs.Layers.{Layers}
use Rattle.dconf_layers.specs.declared.layer.Layer.{Layer}
use Rattle.dconf_layers.specs.LayerSettings.{settings_of}
use Rattle.dconfdb_calls.specs.declared.values.DconfdbFound.{DconfdbFound}

abbrev pub layers_of : List Layer → Bool → Layers
layers_of layers writable = record { layers = map settings_of layers; writable = writable }

-- The bytes that are handed out are those that a stored variant holds, and the text spells the type
-- that it gives them
pub record IsHeldIn (stored : List ℕ) (found : DconfdbFound) : Type 0 where
  pub child : Child
  pub is : slice_get (cut variant stored) 0 ≡ Some child
  pub bytes : found.value.now ≡ child_bytes stored child
  pub type_text : found.type_text.now ≡ spelling child.type

-- bytes, read at the type that the text spells
abbrev pub found_value : DconfdbFound → Tree
found_value found = decode (type_at found.type_text.now) found.value.now

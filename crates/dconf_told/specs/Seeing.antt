-- What is seen at a key's path, by what C lends of layers and of an edit.
use Rattle.std.specs.Prelude.{ℕ, ◌==◌, ◌&&◌, ◌||◌, Bool, if◌then◌else◌, List, length, map, Option, Some, None}
use Rattle.std.specs.Str.{bytes_eq, is_utf8}
use Rattle.gv_model.specs.Decode.{decode}
use Rattle.gv_model.specs.Tree.{Tree, type_of}
use Rattle.gv_model.specs.Ty.{spelling}
use Rattle.gv_model.specs.TypeText.{is_type, type_at}
use Rattle.dconf_model.specs.Layers.{Layers}
use Rattle.dconf_model.specs.Stores.{Saying}
use Rattle.dconf_model.specs.Stores.Saying.{silent, unset, sets}
use Rattle.dconf_layers.specs.LayerSettings.{settings_of}
use Rattle.dconf_seen.specs.Waiting.{seen_as}
use Rattle.dconf_told.specs.declared.seen.DconfdbWaits.{DconfdbWaits}
use Rattle.dconf_told.specs.declared.seen.DconfdbView.{DconfdbView}

-- the value that an edit sets, if its text spells a type
abbrev pub edit_value : DconfdbWaits → Option Tree
edit_value w =
    if w.sets && (is_utf8 w.type_text.now && is_type w.type_text.now) then Some (decode (type_at w.type_text.now) w.value.now) else None

abbrev pub or_unset : Option Tree → Saying
or_unset None = unset
or_unset (Some v) = sets v

abbrev pub said_of : DconfdbWaits → Saying
said_of w = if w.waits then or_unset (edit_value w) else silent

-- a value of the type that the text spells; the empty text is of any
abbrev pub is_of : List ℕ → Tree → Bool
is_of text v = length text == 0 || bytes_eq text (spelling (type_of v))

abbrev pub layers_in : DconfdbView → Layers
layers_in s = record { layers = map settings_of s.layers.now; writable = s.writable }

-- what is seen there by who asks for that type
abbrev pub shown_to : List ℕ → DconfdbView → List ℕ → Option Tree
shown_to text s path = seen_as (is_of text) (layers_in s) (said_of s.edit) path

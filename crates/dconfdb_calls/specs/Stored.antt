-- A layer's own value at a path, and whether it is a given one.
use Rattle.std.specs.Prelude.{◌≡◌, ℕ, List, Option, Some, option_and_then}
use Rattle.std.specs.FinMap.{get}
use Rattle.gv_model.specs.Tree.{Tree}
use Rattle.gv_model.specs.TypeText.{type_at}
use Rattle.gv_model.specs.Decode.{decode}
use Rattle.dconf_model.specs.Salvaging.{IsKeyText}
use Rattle.dconf_model.specs.Settings.{Settings}
use Rattle.dconf_model.specs.Values.{held_value}
use Rattle.dconfdb_calls.specs.Given.{SpellsType}

-- the value that a layer has at a path
abbrev pub own_value : Settings → List ℕ → Option Tree
own_value s path = option_and_then held_value (get s.values path)

-- at the path of a key it is the value of these bytes, at the type that the text spells
pub record IsStored (s : Settings) (path bytes type_text : List ℕ) : Type 0 where
  pub key : IsKeyText path
  pub typed : SpellsType type_text
  pub is : own_value s path ≡ Some (decode (type_at type_text) bytes)

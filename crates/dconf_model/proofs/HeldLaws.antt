-- Stored bytes always hold a value.
use Rattle.std.specs.Prelude.{◌≡◌, ℕ, List, Option, Some, None, true, is_some, option_map, option_and_then, slice_get, refl}
use Rattle.std.proofs.Common.{ap, ◌∙◌}
use Rattle.gv_model.specs.Ty.Ty.{variant}
use Rattle.gv_model.specs.Tree.{Tree}
use Rattle.gv_model.specs.Children.{Child, child_bytes}
use Rattle.gv_model.specs.Decode.{decode}
use Rattle.gv_model.proofs.ChildLaws.{child_of_value, variant_cut}
use Rattle.dconf_model.specs.Values.{stored, held_value}
use Rattle.dconf_model.specs.Stores.{IsLimitedValue}
use Rattle.dconf_model.proofs.ValueLaws.{stored_is_held}

pub is_held : (bytes : List ℕ) → is_some (held_value bytes) ≡ true
is_held bytes = ap is_some (child_of_value variant bytes 0) ∙ ap (λ (cs : List Child). is_some (option_map (λ c. decode c.type (child_bytes bytes c)) (slice_get cs 0))) (variant_cut bytes)

-- what is held is there exactly where bytes are
pub held_there : (o : Option (List ℕ)) → is_some (option_and_then held_value o) ≡ is_some o
held_there None = refl
held_there (Some bytes) = is_held bytes

-- a value that is whole, where there is one
abbrev pub IsWholeOption : Option Tree → Type 0
IsWholeOption None = Unit {0}
IsWholeOption (Some v) = IsLimitedValue v

pub held_of_stored : (o : Option Tree) → IsWholeOption o → option_and_then held_value (option_map stored o) ≡ o
held_of_stored None h = refl
held_of_stored (Some v) h = stored_is_held v h.0 h.1

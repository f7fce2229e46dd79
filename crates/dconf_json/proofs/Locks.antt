-- The lock that a layer after the first has for a key.
use Rattle.std.proofs.Common.{◌≡◌, ◌∙◌, ℕ, zero, suc, List, Option, Some, None, ap, map, refl, sym}
use Rattle.std.specs.Prelude.{option_and_then, option_map, slice_get}
use Rattle.std.proofs.lemmas.Option.{slice_get-map}
use Rattle.dconf_model.specs.Explains.{lock_in, lock_of}
use Rattle.dconf_model.specs.Layers.{Layers}
use Rattle.dconf_model.specs.Settings.{Settings}
use Rattle.dconf_layers.specs.declared.layer.Layer.{Layer}
use Rattle.dconf_layers.specs.LayerSettings.{settings_of}

later : (l : Layers) (path : List ℕ) (i : ℕ) → (i ≡ 0 → ⊥) → option_and_then (lock_of path) (slice_get l.layers i) ≡ lock_in l path i
later l path zero other = absurd (other refl)
later l path (suc i) other = refl

-- by what the layers have there
pub lock_at : (items : List Layer) (l : Layers) (path : List ℕ) (i : ℕ) (found : Option Layer) → (i ≡ 0 → ⊥) → map settings_of items ≡ l.layers
    → slice_get items i ≡ found → option_and_then (lock_of path) (option_map settings_of found) ≡ lock_in l path i
lock_at items l path i found other same e =
    ap (λ o. option_and_then (lock_of path) (option_map settings_of o)) (sym e)
    ∙ (ap (option_and_then (lock_of path)) (sym (slice_get-map settings_of items i))
    ∙ (ap (λ (ss : List Settings). option_and_then (lock_of path) (slice_get ss i)) same ∙ later l path i other))

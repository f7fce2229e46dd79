-- Where no layer but the first has locks no key is locked.
use Rattle.std.specs.Prelude.{IsTrue}
use Rattle.std.proofs.Common.{◌≡◌, ◌∷◌, [], ◌||◌, arith, length, ℕ, ◌+◌, Bool, true, false, List, drop, map, sym, subst, refl}
use Rattle.std.specs.List.{list_any}
use Rattle.dconf_model.specs.Layers.{greatest_from, level, locks_path}
use Rattle.dconf_model.specs.Paths.{is_key_path}
use Rattle.dconf_model.proofs.PathMaps.{no_truth}
use Rattle.dconf_layers.specs.declared.layer.Layer.{Layer}
use Rattle.dconf_layers.specs.LayerSettings.{has_locks, locks_of, settings_of}
use Rattle.dconf_layers.specs.SoundTables.{AreOfSoundDatabase}
use Rattle.dconf_layers.proofs.EntryLaws.{is_none}
use Rattle.dconf_layers.proofs.SoundLayers.{unlocked_in}

unlocked_layer : (layer : Layer) (path : List ℕ) → IsTrue (is_key_path path) → has_locks layer ≡ false → locks_path path (settings_of layer) ≡ false
unlocked_layer layer path key none = sym (unlocked_in layer.values path (subst (λ o. ∥ AreOfSoundDatabase layer.values o ∥₁) (sym (is_none (locks_of layer) none)) layer.sound) key)

unlocked_layers : (from : ℕ) (layers : List Layer) (path : List ℕ) → IsTrue (is_key_path path) → list_any has_locks layers ≡ false → greatest_from from (locks_path path) (map settings_of layers) ≡ 0
unlocked_layers from [] path key none = refl
unlocked_layers from (layer ∷ layers) path key none =
    let both = neither (has_locks layer) (list_any has_locks layers) none in
    rw (unlocked_layers (from + 1) layers path key both.1, unlocked_layer layer path key both.0) refl
  where
    neither : (a b : Bool) → (a || b) ≡ false → (a ≡ false) × (b ≡ false)
    neither true b e = absurd (no_truth (sym e))
    neither false b e = (refl, e)

pub unlocked_level : (layers : List Layer) (writable : Bool) (path : List ℕ) → IsTrue (is_key_path path) → list_any has_locks (drop 1 layers) ≡ false →
    level (record { layers = map settings_of layers; writable = writable }) path ≡ 0
unlocked_level [] writable path key none = refl
unlocked_level (layer ∷ layers) writable path key none = unlocked_layers 1 layers path key none

pub nothing_locked : (layers : List Layer) (writable : Bool) (path : List ℕ) → length layers ≡ 0 → level (record { layers = map settings_of layers; writable = writable }) path ≡ 0
nothing_locked [] writable path none = refl
nothing_locked (layer ∷ layers) writable path none = absurd (omega (arith, none))

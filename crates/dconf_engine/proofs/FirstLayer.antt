-- A first layer with changed values: it has other values, and nothing else is other.
use Rattle.std.proofs.Common.{◌≡◌, ◌∙◌, ℕ, zero, suc, Bool, true, List, [], ◌∷◌, drop, Option, Some, None, refl, sym, ap, map, option_map, slice_get, subst}
use Rattle.std.specs.Prelude.{option_and_then}
use Rattle.std.proofs.lemmas.Option.{slice_get-map}
use Rattle.std.specs.Option.{unwrap_or}
use Rattle.std.specs.FinMap.{empty, get}
use Rattle.dconf_model.specs.Changes.{Values, with_first_layer}
use Rattle.dconf_model.specs.Explains.{lock_in, lock_of}
use Rattle.dconf_model.specs.Layers.{Layers, first_from, place_or, without_user}
use Rattle.dconf_model.specs.Settings.{Settings}
use Rattle.dconf_layers.specs.declared.layer.Layer.{Layer}
use Rattle.dconf_layers.specs.LayerSettings.{settings_of}
use Rattle.dconf_engine.specs.Unsaved.{Unsaved, with_changes}
use Rattle.dconf_engine.proofs.UnsavedLaws.{get_changed, none_changed}

pub same_later : (change : Values → Values) (xs : List Settings) → drop 1 (with_first_layer change xs) ≡ drop 1 xs
same_later change [] = refl
same_later change (s ∷ xs) = refl

-- nothing changed
pub unchanged : (xs : List Settings) → with_first_layer (with_changes empty) xs ≡ xs
unchanged [] = refl
unchanged (s ∷ xs) = ap (λ (v : Values). record { values = v; locks = s.locks } ∷ xs) (none_changed s.values)

-- ---- where a value is

-- where the first layer has what was changed, else what its file says
module _ (c : Unsaved) (path : List ℕ) (ls : List Settings) where
  first_is : (x : Layer) (items : List Layer) (o : Option (Option (List ℕ))) → with_first_layer (with_changes c) (map settings_of (x ∷ items)) ≡ ls → get c path ≡ o →
      first_from 0 ls path ≡ place_or 0 (unwrap_or o (get (settings_of x).values path)) (first_from 1 (map settings_of items) path)
  first_is x items o are is =
      sym (ap (λ ls. first_from 0 ls path) are)
      ∙ ap (λ b. place_or 0 b (first_from 1 (map settings_of items) path)) (get_changed c (settings_of x).values path ∙ ap (λ o. unwrap_or o (get (settings_of x).values path)) is)

  pub place_unchanged : (items : List Layer) → with_first_layer (with_changes c) (map settings_of items) ≡ ls → get c path ≡ None → first_from 0 (map settings_of items) path ≡ first_from 0 ls path
  place_unchanged [] are none = ap (λ ls. first_from 0 ls path) are
  place_unchanged (x ∷ items) are none = sym (first_is x items None are none)

  pub place_reset : (items : List Layer) → with_first_layer (with_changes c) (map settings_of items) ≡ ls → get c path ≡ Some None → first_from 1 (drop 1 (map settings_of items)) path ≡ first_from 0 ls path
  place_reset [] are reset = ap (λ ls. first_from 0 ls path) are
  place_reset (x ∷ items) are reset = sym (first_is x items (Some None) are reset)

  pub place_set : (items : List Layer) (bytes : List ℕ) → with_first_layer (with_changes c) (map settings_of items) ≡ ls → get c path ≡ Some (Some bytes) → ¬ (items ≡ []) → Some (0, bytes) ≡ first_from 0 ls path
  place_set [] bytes are is some = absurd (some refl)
  place_set (x ∷ items) bytes are is some = sym (first_is x items (Some (Some bytes)) are is)

-- without the user's values nothing is changed
pub default_same : (change : Values → Values) (xs : List Settings) (writable : Bool) → writable ≡ true →
    without_user (record { layers = xs; writable = writable }) ≡ without_user (record { layers = with_first_layer change xs; writable = writable })
default_same change [] writable e = refl
default_same change (s ∷ xs) writable e = rw e refl

-- a later layer has what its file says
pub bytes_later : (c : Unsaved) (items : List Layer) (i : ℕ) (layer : Layer) (path : List ℕ) (ls : List Settings) → (i ≡ 0 → ⊥) → slice_get items i ≡ Some layer →
    with_first_layer (with_changes c) (map settings_of items) ≡ ls → get (settings_of layer).values path ≡ option_and_then (λ s. get s.values path) (slice_get ls i)
bytes_later c items zero layer path ls later e are = absurd (later refl)
bytes_later c [] (suc i) layer path ls later e are = absurd cc
bytes_later c (x ∷ items) (suc i) layer path ls later e are =
    subst (λ ls. get (settings_of layer).values path ≡ option_and_then (λ s. get s.values path) (slice_get ls (suc i))) are
    (sym (ap (option_and_then (λ s. get s.values path)) (slice_get-map settings_of items i ∙ ap (option_map settings_of) e)))

pub lock_later : (c : Unsaved) (items : List Layer) (i : ℕ) (layer : Layer) (path : List ℕ) (l : Layers) → (i ≡ 0 → ⊥) → slice_get items i ≡ Some layer →
    with_first_layer (with_changes c) (map settings_of items) ≡ l.layers → lock_of path (settings_of layer) ≡ lock_in l path i
lock_later c items zero layer path l later e are = absurd (later refl)
lock_later c [] (suc i) layer path l later e are = absurd cc
lock_later c (x ∷ items) (suc i) layer path l later e are =
    subst (λ ls. lock_of path (settings_of layer) ≡ option_and_then (lock_of path) (slice_get ls (suc i))) are
    (sym (ap (option_and_then (lock_of path)) (slice_get-map settings_of items i ∙ ap (option_map settings_of) e)))

pub no_lock_later : (c : Unsaved) (items : List Layer) (i : ℕ) (path : List ℕ) (l : Layers) → (i ≡ 0 → ⊥) → slice_get items i ≡ None →
    with_first_layer (with_changes c) (map settings_of items) ≡ l.layers → None ≡ lock_in l path i
no_lock_later c items zero path l later e are = absurd (later refl)
no_lock_later c [] (suc i) path l later e are = ap (λ ls. option_and_then (lock_of path) (slice_get ls (suc i))) are
no_lock_later c (x ∷ items) (suc i) path l later e are =
    subst (λ ls. None ≡ option_and_then (lock_of path) (slice_get ls (suc i))) are
    (sym (ap (option_and_then (lock_of path)) (slice_get-map settings_of items i ∙ ap (option_map settings_of) e)))

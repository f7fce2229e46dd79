-- Resetting all below a directory: what was changed there and what the first layer has there.
use Rattle.std.proofs.Common.{◌≡◌, ℕ, Bool, true, false, cond, not, List, [], ◌∷◌, Option, Some, None, Ok, Err, is_some, map, refl, slice_get, sym, ap, ◌∙◌, ◌&&◌}
use Rattle.std.specs.List.{list_any}
use Rattle.std.specs.Option.{unwrap_or}
use Rattle.std.specs.Str.{bytes_eq}
use Rattle.std.specs.FinMap.{get, entries, retain_keys, contains_key}
use Rattle.dconf_model.specs.Changes.{Values, apply, changed, with_first_layer}
use Rattle.dconf_model.specs.Changes.Change.{reset_below_directory}
use Rattle.dconf_model.specs.Changes.Refusal.{not_writable}
use Rattle.dconf_model.specs.Layers.{Layers}
use Rattle.dconf_model.proofs.PathMaps.{key_in, no_truth}
use Rattle.dconf_layers.specs.declared.layer.Layer.{Layer}
use Rattle.dconf_engine.specs.Cleared.{keeps, cleared, changed_paths, first_paths}
use Rattle.dconf_layers.specs.LayerRows.{layer_paths}
use Rattle.dconf_layers.specs.LayerSettings.{settings_of}
use Rattle.dconf_engine.specs.Unsaved.{Unsaved, and_resets, with_changes}
use Rattle.dconf_layers.proofs.EntryLaws.{each_is_there}
use Rattle.dconf_layers.proofs.PathTests.{any_passing}
use Rattle.dconf_layers.proofs.TextSetLaws.{get_with_all}
use Rattle.dconf_engine.proofs.UnsavedLaws.{kept_of}

-- ---- all below a directory

-- what is reset: the changed paths, and then the names of the first layer
abbrev pub reset_all : Layers → List ℕ → Unsaved → List (List ℕ) → Unsaved
reset_all l d c names = and_resets (cleared l d names) (and_resets (cleared l d (changed_paths (entries c))) c)

-- what a list of paths resets, of which those that are kept are left out
get_cleared : (l : Layers) (d : List ℕ) (ps : List (List ℕ)) (c : Unsaved) (q : List ℕ) →
    get (and_resets (cleared l d ps) c) q ≡ cond (not (keeps l d q) && list_any (bytes_eq q) ps) (Some None) (get c q)
get_cleared l d ps c q =
    get_with_all None (cleared l d ps) c q ∙ ap (λ b. cond b (Some None) (get c q)) (any_passing q (λ p. not (keeps l d p)) ps)

get_reset_all : (l : Layers) (d : List ℕ) (c : Unsaved) (names : List (List ℕ)) (q : List ℕ) →
    get (reset_all l d c names) q ≡ cond (not (keeps l d q) && list_any (bytes_eq q) names) (Some None) (cond (not (keeps l d q) && contains_key c q) (Some None) (get c q))
get_reset_all l d c names q =
    get_cleared l d names (and_resets (cleared l d (changed_paths (entries c))) c) q
    ∙ ap (cond (not (keeps l d q) && list_any (bytes_eq q) names) (Some None))
    (get_cleared l d (changed_paths (entries c)) c q ∙ ap (λ b. cond (not (keeps l d q) && b) (Some None) (get c q)) (sym (key_in c q)))

gone : (a : Bool) (o : Option (Option (List ℕ))) (base : Option (List ℕ)) → ((bytes : List ℕ) → base ≡ Some bytes → a ≡ true) →
    unwrap_or (cond a (Some None) (cond (is_some o) (Some None) o)) base ≡ None
gone true o base each = refl
gone false (Some x) base each = refl
gone false None None each = refl
gone false None (Some bytes) each = absurd (no_truth (each bytes refl))

pub reset_below_all : (l : Layers) (d : List ℕ) (c : Unsaved) (item : Layer) →
    with_changes (reset_all l d c (layer_paths item)) (settings_of item).values ≡ retain_keys (with_changes c (settings_of item).values) (keeps l d)
reset_below_all l d c item =
    let names = layer_paths item in
    let base = (settings_of item).values in
    kept_of c (reset_all l d c names) base (keeps l d)
    (λ q yes. get_reset_all l d c names q ∙ ap (λ k. cond (not k && list_any (bytes_eq q) names) (Some None) (cond (not k && contains_key c q) (Some None) (get c q))) yes)
    (λ q out. ap (λ o. unwrap_or o (get base q)) (get_reset_all l d c names q ∙ ap (λ k. cond (not k && list_any (bytes_eq q) names) (Some None) (cond (not k && contains_key c q) (Some None) (get c q))) out)
    ∙ gone (list_any (bytes_eq q) names) (get c q) (get base q) (λ bytes e. each_is_there item q bytes e))

abbrev paths_in : Option Layer → List (List ℕ)
paths_in (Some x) = layer_paths x
paths_in None = []

pub first_is : (items : List Layer) (x : Layer) → slice_get items 0 ≡ Some x → layer_paths x ≡ first_paths items
first_is [] x e = sym (ap paths_in e)
first_is (y ∷ items) x e = sym (ap paths_in e)

-- over the layers of files
pub reset_layers : (l : Layers) (d : List ℕ) (c : Unsaved) (items : List Layer) →
    with_first_layer (λ values. retain_keys values (keeps l d)) (with_first_layer (with_changes c) (map settings_of items))
    ≡ with_first_layer (with_changes (reset_all l d c (first_paths items))) (map settings_of items)
reset_layers l d c [] = refl
reset_layers l d c (item ∷ items) =
    ap (λ (v : Values). record { values = v; locks = (settings_of item).locks } ∷ map settings_of items) (sym (reset_below_all l d c item))

pub reset_dir_accepted : (l : Layers) (d : List ℕ) → l.writable ≡ true → apply l (reset_below_directory d) ≡ Ok (changed (λ values. retain_keys values (keeps l d)) l)
reset_dir_accepted l d e = ap (λ b. cond b (Ok (changed (λ values. retain_keys values (keeps l d)) l)) (Err not_writable)) e

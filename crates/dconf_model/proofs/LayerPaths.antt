-- The values of a database's layer are at the paths of keys, which are texts.
use Rattle.std.specs.Prelude.{Contains, IsUtf8}
use Rattle.std.proofs.Common.{◌≡◌, ◌∙◌, subst, ℕ, true, List, [], ◌∷◌, Option, Some, None, sym, ap, inl, inr}
use Rattle.std.specs.Option.{is_some}
use Rattle.std.specs.Ordering.{nat_cmp}
use Rattle.std.specs.Cmp.Lexicographic.{slice_cmp}
use Rattle.std.specs.Str.{bytes_eq}
use Rattle.std.specs.Cmp.{decided}
use Rattle.std.specs.FinMap.{contains_key, get, get-empty, keys}
use Rattle.std.proofs.lemmas.Str.{IsUtf8-append}
use Rattle.std.proofs.lemmas.Slice.Eq.{bytes_eq-Decides}
use Rattle.std.proofs.lemmas.Map.Views.{list_any-from_Contains}
use Rattle.std.proofs.lemmas.List.Elements.{Contains-append_cases}
use Rattle.dconf_model.specs.Databases.{AreLayers, IsLayer}
use Rattle.dconf_model.specs.Layers.{all_paths}
use Rattle.dconf_model.specs.Names.{HasParents, joined}
use Rattle.dconf_model.specs.Opening.{root_of}
use Rattle.dconf_model.specs.Searchable.{IsSearchable}
use Rattle.dconf_model.specs.Table.{Table, key}
use Rattle.dconf_model.specs.Paths.{is_key_path}
use Rattle.dconf_model.specs.Settings.{Settings, AtPaths}
use Rattle.dconf_model.specs.Walks.{LayersHaveKeyPaths}
use Rattle.dconf_model.proofs.Listings.{none_of_none}
use Rattle.dconf_model.proofs.PathMaps.{key_in, no_truth}
use Rattle.dconf_model.proofs.SettingsIn.{is_there, says_settings}
use Rattle.dconf_model.proofs.SoundLaws.{sound_is_searchable}

has_key : {X : Type 0} (m : AtPaths X) (path : List ℕ) → Contains (keys m) path → contains_key m path ≡ true
has_key m path c = key_in m path ∙ list_any-from_Contains (decided bytes_eq bytes_eq-Decides) path (keys m) c

layer_path : (item : Option (List ℕ)) (s : Settings) (path : List ℕ) → IsLayer item s → Contains (keys s.values) path → is_key_path path ≡ true
layer_path None s path h c = absurd (no_truth (ap is_some (sym (get-empty (slice_cmp nat_cmp) path)) ∙ (sym (ap (λ (s : Settings). contains_key s.values path) h) ∙ has_key s.values path c)))
layer_path (Some file) s path h c = (says_settings file s h.1 h.2).valued path (has_key s.values path c)

pub layers_have_key_paths : LayersHaveKeyPaths
layers_have_key_paths [] [] h path c = absurd (none_of_none path c)
layers_have_key_paths [] (s ∷ ss) h path c = absurd h
layers_have_key_paths (item ∷ items) [] h path c = absurd h
layers_have_key_paths (item ∷ items) (s ∷ ss) h path c =
    elim (Contains-append_cases (keys s.values) (all_paths ss) path c) [
      | inl here ↦ layer_path item s path h.0 here
      | inr later ↦ layers_have_key_paths items ss h.1 path later
    ]

-- ---- their paths are UTF-8

name_utf8 : (t : Table) (i : ℕ) (parents : List ℕ) → IsSearchable t → HasParents t i parents → IsUtf8 (joined t i parents)
name_utf8 t i [] s h = (s.good_key i h.0.counted).utf8
name_utf8 t i (p ∷ ps) s h = IsUtf8-append (joined t p ps) (key t i) (name_utf8 t p ps s h.3) (s.good_key i h.0.counted).utf8

layer_text : (item : Option (List ℕ)) (s : Settings) (path : List ℕ) → IsLayer item s → Contains (keys s.values) path → IsUtf8 path
layer_text None s path h c = absurd (no_truth (ap is_some (sym (get-empty (slice_cmp nat_cmp) path)) ∙ (sym (ap (λ (s : Settings). contains_key s.values path) h) ∙ has_key s.values path c)))
layer_text (Some file) s path h c =
    let some = is_there (get s.values path) (has_key s.values path c) in
    let row = (h.2.values path some.0).1 some.1 in
    subst IsUtf8 row.1.named.spelled (name_utf8 (root_of file) row.0 row.1.named.parents (sound_is_searchable (root_of file) h.1) row.1.named.chain)

pub layers_have_texts : (items : List (Option (List ℕ))) (layers : List Settings) → AreLayers items layers → (path : List ℕ) → Contains (all_paths layers) path → IsUtf8 path
layers_have_texts [] [] h path c = absurd (none_of_none path c)
layers_have_texts [] (s ∷ ss) h path c = absurd h
layers_have_texts (item ∷ items) [] h path c = absurd h
layers_have_texts (item ∷ items) (s ∷ ss) h path c =
    elim (Contains-append_cases (keys s.values) (all_paths ss) path c) [
      | inl here ↦ layer_text item s path h.0 here
      | inr later ↦ layers_have_texts items ss h.1 path later
    ]

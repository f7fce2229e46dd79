-- The paths at which the first layer has a value: those of its file that were not changed, and those that were set.
use Rattle.std.proofs.Common.{◌≡◌, ◌||◌, ◌&&◌, ℕ, Bool, true, false, cond, not, List, [], ◌∷◌, ◌++◌, Option, Some, None, is_some, refl, sym, ap, ◌∙◌, subst}
use Rattle.std.specs.Prelude.{flat_map}
use Rattle.std.specs.Cmp.Lexicographic.{slice_cmp}
use Rattle.std.specs.FinMap as fin
use Rattle.std.specs.FinMap.{contains_key, get, keys, entries, find}
use Rattle.std.specs.FinMap.Entries.{is_sorted, below_all}
use Rattle.std.specs.List.{list_any}
use Rattle.std.specs.Option.{unwrap_or}
use Rattle.std.specs.Ordering.{nat_cmp}
use Rattle.std.specs.Str.{bytes_eq}
use Rattle.std.proofs.Math.Bool.{or-false}
use Rattle.std.proofs.lemmas.Bool.{and_parts}
use Rattle.std.proofs.lemmas.List.Folds.{list_any-append}
use Rattle.std.proofs.lemmas.List.Sums.{fold-append}
use Rattle.std.proofs.lemmas.Map.Text.{is_eq-slice_cmp}
use Rattle.dconf_model.specs.Locks.{is_below}
use Rattle.dconf_model.proofs.ParentLaws.{by_bool}
use Rattle.dconf_model.proofs.PathMaps.{key_in, no_truth}
use Rattle.dconf_model.proofs.SameBytes.{same_path}
use Rattle.gvdb_maps.proofs.KeysRise.{from_true}
use Rattle.dconf_layers.specs.declared.layer.Layer.{Layer}
use Rattle.dconf_layers.specs.LayerRows.{layer_paths}
use Rattle.dconf_layers.specs.LayerSettings.{settings_of}
use Rattle.dconf_engine.specs.LeftPaths.{base_paths, has_reset_below, is_reset_below, unchanged_of, with_set_child, with_set_children}
use Rattle.dconf_layers.specs.TextSets.{TextSet, with_child, with_children}
use Rattle.dconf_engine.specs.Unsaved.{Unsaved, with_changes}
use Rattle.dconf_layers.proofs.EntryLaws.{has_path}
use Rattle.dconf_layers.proofs.PathTests.{any_passing}
use Rattle.dconf_engine.proofs.SavedLaws.{find_below}
use Rattle.dconf_layers.proofs.TextSetLaws.{children_alike}
use Rattle.dconf_engine.proofs.UnsavedLaws.{get_changed}

abbrev pub Entries : Type 0
Entries = List (List ℕ × Option (List ℕ))

found : List ℕ → Entries → Option (Option (List ℕ))
found q es = find (slice_cmp nat_cmp) q es

-- ---- what was set

abbrev path_if_set : List ℕ → Option (List ℕ) → List (List ℕ)
path_if_set path (Some bytes) = path ∷ []
path_if_set path None = []

abbrev set_paths : Entries → List (List ℕ)
set_paths changes = flat_map (λ c. path_if_set c.0 c.1) changes

abbrev is_set : Option (Option (List ℕ)) → Bool
is_set (Some (Some bytes)) = true
is_set (Some None) = false
is_set None = false

found_if : (q : List ℕ) (e : List ℕ × Option (List ℕ)) (es : Entries) → found q (e ∷ es) ≡ cond (bytes_eq q e.0) (Some e.1) (found q es)
unfolding found
found_if q e es = ap (λ b. cond b (Some e.1) (find (slice_cmp nat_cmp) q es)) (is_eq-slice_cmp q e.0)

set_here : (q p : List ℕ) (o : Option (List ℕ)) → bytes_eq q p ≡ true → list_any (bytes_eq q) (path_if_set p o) ≡ is_set (Some o)
set_here q p (Some bytes) same = rw same refl
set_here q p None same = refl

set_elsewhere : (q p : List ℕ) (o : Option (List ℕ)) → bytes_eq q p ≡ false → list_any (bytes_eq q) (path_if_set p o) ≡ false
set_elsewhere q p (Some bytes) other = rw other refl
set_elsewhere q p None other = refl

were_set : (q : List ℕ) (es : Entries) → is_sorted (slice_cmp nat_cmp) es ≡ true → list_any (bytes_eq q) (set_paths es) ≡ is_set (found q es)
unfolding found
were_set q [] sorted = refl
were_set q (e ∷ es) sorted =
    let parts = and_parts (below_all (slice_cmp nat_cmp) e.0 es) (is_sorted (slice_cmp nat_cmp) es) sorted in
    let later = were_set q es parts.1 in
    list_any-append (bytes_eq q) (path_if_set e.0 e.1) (set_paths es)
    ∙ by_bool (bytes_eq q e.0) ((list_any (bytes_eq q) (path_if_set e.0 e.1) || list_any (bytes_eq q) (set_paths es)) ≡ is_set (found q (e ∷ es)))
    (λ same.
    let none : found q es ≡ None = subst (λ (p : List ℕ). found p es ≡ None) (sym (same_path q e.0 same)) (find_below e.0 es parts.0) in
    ap (λ b. list_any (bytes_eq q) (path_if_set e.0 e.1) || b) (later ∙ ap is_set none)
    ∙ (or-false (list_any (bytes_eq q) (path_if_set e.0 e.1))
    ∙ (set_here q e.0 e.1 same ∙ sym (ap is_set (found_if q e es ∙ ap (λ b. cond b (Some e.1) (found q es)) same)))))
    (λ other.
    ap (λ b. b || list_any (bytes_eq q) (set_paths es)) (set_elsewhere q e.0 e.1 other)
    ∙ (later ∙ sym (ap is_set (found_if q e es ∙ ap (λ b. cond b (Some e.1) (found q es)) other))))

pub set_there : (c : Unsaved) (q : List ℕ) → list_any (bytes_eq q) (set_paths (entries c)) ≡ is_set (get c q)
unfolding found
set_there c q = were_set q (entries c) (from_true _ (fin.entries_sorted c)) ∙ ap is_set (sym (fin.get-entries c q))

-- ---- what was reset

some_inner : (o p : Option (List ℕ)) → Some o ≡ Some p → o ≡ p
some_inner o p e = ap (λ x. unwrap_or x o) e

was_reset : (d q : List ℕ) (es : Entries) → list_any (λ e. is_reset_below d e.0 e.1) es ≡ false → is_below q d ≡ true → found q es ≡ Some None → ⊥
unfolding found
was_reset d q [] none below e = cc
was_reset d q (x ∷ es) none below e =
    by_bool (bytes_eq q x.0) ⊥
    (λ same.
    let is : x.1 ≡ None = some_inner x.1 None (sym (ap (λ b. cond b (Some x.1) (found q es)) same) ∙ (sym (found_if q x es) ∙ e)) in
    let reset : is_reset_below d x.0 x.1 ≡ true = ap (is_reset_below d x.0) is ∙ (ap (λ (p : List ℕ). is_below p d) (sym (same_path q x.0 same)) ∙ below) in
    no_truth (sym none ∙ ap (λ b. b || list_any (λ e. is_reset_below d e.0 e.1) es) reset))
    (λ other.
    was_reset d q es (later (is_reset_below d x.0 x.1) none) below (sym (ap (λ b. cond b (Some x.1) (found q es)) other) ∙ (sym (found_if q x es) ∙ e)))
  where
    later : (b : Bool) → (b || list_any (λ e. is_reset_below d e.0 e.1) es) ≡ false → list_any (λ e. is_reset_below d e.0 e.1) es ≡ false
    later true h = absurd (no_truth (sym h))
    later false h = h

not_reset : (d q : List ℕ) (c : Unsaved) → has_reset_below d c ≡ false → is_below q d ≡ true → get c q ≡ Some None → ⊥
unfolding found
not_reset d q c none below e = was_reset d q (entries c) none below (sym (fin.get-entries c q) ∙ e)

-- ---- both

unchanged_or_set : (g : Option (Option (List ℕ))) (o : Option (List ℕ)) → (not (is_some g) && is_some o || is_set g) ≡ is_some (unwrap_or g o)
unchanged_or_set (Some (Some bytes)) o = refl
unchanged_or_set (Some None) o = refl
unchanged_or_set None None = refl
unchanged_or_set None (Some bytes) = refl

there_or_set : (g : Option (Option (List ℕ))) (o : Option (List ℕ)) → (g ≡ Some None → ⊥) → (is_some o || is_set g) ≡ is_some (unwrap_or g o)
there_or_set (Some (Some bytes)) None other = refl
there_or_set (Some (Some bytes)) (Some x) other = refl
there_or_set (Some None) o other = absurd (other refl)
there_or_set None None other = refl
there_or_set None (Some x) other = refl

-- paths of the file below the directory, and what was set
base_or_set : (d : List ℕ) (c : Unsaved) (layer : Layer) (p : List ℕ) → is_below p d ≡ true →
    (list_any (bytes_eq p) (base_paths d c layer) || is_set (get c p)) ≡ is_some (unwrap_or (get c p) (get (settings_of layer).values p))
base_or_set d c layer p below =
    let base = (settings_of layer).values in
    let paths = layer_paths layer in
    by_bool (has_reset_below d c) ((list_any (bytes_eq p) (base_paths d c layer) || is_set (get c p)) ≡ is_some (unwrap_or (get c p) (get base p)))
    (λ yes.
    ap (λ b. list_any (bytes_eq p) (cond b (unchanged_of c paths) (keys base)) || is_set (get c p)) yes
    ∙ (ap (λ b. b || is_set (get c p)) (any_passing p (λ path. not (contains_key c path)) paths ∙ ap (λ b. not (contains_key c p) && b) (has_path layer p))
    ∙ unchanged_or_set (get c p) (get base p)))
    (λ none.
    ap (λ b. list_any (bytes_eq p) (cond b (unchanged_of c paths) (keys base)) || is_set (get c p)) none
    ∙ (ap (λ b. b || is_set (get c p)) (sym (key_in base p))
    ∙ there_or_set (get c p) (get base p) (not_reset d p c none below)))

left_there : (d : List ℕ) (c : Unsaved) (layer : Layer) (p : List ℕ) → is_below p d ≡ true →
    list_any (bytes_eq p) (base_paths d c layer ++ set_paths (entries c)) ≡ list_any (bytes_eq p) (keys (with_changes c (settings_of layer).values))
left_there d c layer p below =
    let base = (settings_of layer).values in
    list_any-append (bytes_eq p) (base_paths d c layer) (set_paths (entries c))
    ∙ (ap (λ b. list_any (bytes_eq p) (base_paths d c layer) || b) (set_there c p)
    ∙ (base_or_set d c layer p below
    ∙ (ap is_some (sym (get_changed c base p)) ∙ key_in (with_changes c base) p)))

set_children_are : (d : List ℕ) (cs : Entries) (s : TextSet) → with_set_children d cs s ≡ with_children d (set_paths cs) s
set_children_are d [] s = refl
set_children_are d (c ∷ cs) s = go c.1 (set_children_are d cs)
  where
    go : (o : Option (List ℕ)) → ((s : TextSet) → with_set_children d cs s ≡ with_children d (set_paths cs) s) →
        with_set_children d cs (with_set_child d s c.0 o) ≡ with_children d (path_if_set c.0 o ++ set_paths cs) s
    go (Some bytes) later = later (with_child d s c.0)
    go None later = later s

-- a set that takes both takes what the directory has
pub both_taken : (d : List ℕ) (c : Unsaved) (layer : Layer) (s : TextSet) →
    with_set_children d (entries c) (with_children d (base_paths d c layer) s) ≡ with_children d (keys (with_changes c (settings_of layer).values)) s
both_taken d c layer s =
    let ps = base_paths d c layer in
    let qs = set_paths (entries c) in
    set_children_are d (entries c) (with_children d ps s) ∙ (sym (fold-append (with_child d) s ps qs)
    ∙ children_alike d (ps ++ qs) (keys (with_changes c (settings_of layer).values)) s (left_there d c layer))

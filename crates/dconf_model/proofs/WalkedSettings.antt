-- The settings at the paths below a directory are those at the paths that have a value.
use Rattle.std.specs.Prelude.{filter, not, ◌&&◌}
use Rattle.std.proofs.Common.{◌≡◌, ℕ, Bool, true, false, List, [], ◌∷◌, cond, Option, Some, None, refl, sym, ap, ◌∙◌}
use Rattle.std.specs.Option.{is_some, option_and_then}
use Rattle.gv_model.specs.Tree.{Tree}
use Rattle.dconf_model.specs.Doubles.{is_double_if_any, left_out, not_left_out}
use Rattle.dconf_model.specs.Layers.{Layers, all_paths, has_value, paths_below, visible, visible_bytes}
use Rattle.dconf_model.specs.Locks.{is_below}
use Rattle.dconf_model.specs.Outcomes.{settings_at, with_value_if_any}
use Rattle.dconf_model.specs.Values.{held_value}
use Rattle.dconf_model.specs.Walks.{WalkHasEachSetting, keys_below}
use Rattle.dconf_model.proofs.Listings.{Texts, listing_has, listing_from}
use Rattle.dconf_model.proofs.ParentLaws.{by_bool}
use Rattle.dconf_model.proofs.PathMaps.{no_truth}
use Rattle.dconf_model.proofs.RisingTexts.{listing_rises, kept_rise, one_rises, kept_is_there, there_is_kept}

-- ---- of the paths with a value alone

pub both_tests : (a b : Bool) → cond a b false ≡ true → (a ≡ true) × (b ≡ true)
both_tests true b e = (refl, e)
both_tests false b e = absurd (no_truth e)

abbrev has : Layers → List ℕ → List ℕ → Bool
has l directory path = cond (is_below path directory) (has_value l path) false

paths_are_kept : (l : Layers) (directory : List ℕ) → paths_below l directory ≡ filter (has_value l) (keys_below (all_paths l.layers) directory)
paths_are_kept l directory =
    let all : Texts = all_paths l.layers in
    let below : List ℕ → Bool = λ path. is_below path directory in
    one_rises (paths_below l directory) (filter (has_value l) (keys_below all directory))
    (listing_rises (filter (has l directory) all)) (kept_rise (has_value l) (keys_below all directory) (listing_rises (filter below all)))
    (λ path c.
    let k = kept_is_there (has l directory) all path (listing_from (filter (has l directory) all) path c) in
    let t = both_tests (is_below path directory) (has_value l path) k.1 in
    there_is_kept (has_value l) (keys_below all directory) path (listing_has (filter below all) path (there_is_kept below all path k.0 t.0)) t.1)
    (λ path c.
    let v = kept_is_there (has_value l) (keys_below all directory) path c in
    let k = kept_is_there below all path (listing_from (filter below all) path v.0) in
    listing_has (filter (has l directory) all) path (there_is_kept (has l directory) all path k.0 (rw (k.1, v.1) refl)))

-- ---- the settings

none_seen : (o : Option (List ℕ)) → is_some o ≡ false → option_and_then held_value o ≡ None
none_seen None e = refl
none_seen (Some bytes) e = cc

same_settings : (l : Layers) (paths : Texts) → settings_at l (filter (has_value l) paths) ≡ settings_at l paths
same_settings l [] = refl
same_settings l (path ∷ paths) =
    by_bool (has_value l path) (settings_at l (filter (has_value l) (path ∷ paths)) ≡ settings_at l (path ∷ paths))
    (λ yes. ap (λ b. settings_at l (cond b (path ∷ filter (has_value l) paths) (filter (has_value l) paths))) yes ∙ ap (with_value_if_any path (visible l path)) (same_settings l paths))
    (λ other. ap (λ b. settings_at l (cond b (path ∷ filter (has_value l) paths) (filter (has_value l) paths))) other
    ∙ (same_settings l paths ∙ ap (λ (o : Option Tree). with_value_if_any path o (settings_at l paths)) (sym (none_seen (visible_bytes l path) other))))

pub walk_has_each_setting : WalkHasEachSetting
walk_has_each_setting l directory = sym (ap (settings_at l) (paths_are_kept l directory) ∙ same_settings l (keys_below (all_paths l.layers) directory))

-- those that are seen have a value
seen_has_value : (l : Layers) (path : List ℕ) → is_some (visible l path) ≡ true → has_value l path ≡ true
seen_has_value l path seen =
    by_bool (has_value l path) (has_value l path ≡ true) (λ there. there)
    (λ other. absurd (no_truth (sym (ap (λ (o : Option Tree). is_some o) (none_seen (visible_bytes l path) other)) ∙ seen)))

-- ---- what is left out of them

kept : (p : List ℕ → Bool) (path : List ℕ) (paths : Texts) → p path ≡ true → filter p (path ∷ paths) ≡ path ∷ filter p paths
kept p path paths e = ap (λ b. cond b (path ∷ filter p paths) (filter p paths)) e

not_kept : (p : List ℕ → Bool) (path : List ℕ) (paths : Texts) → p path ≡ false → filter p (path ∷ paths) ≡ filter p paths
not_kept p path paths e = ap (λ b. cond b (path ∷ filter p paths) (filter p paths)) e

-- two tests, whichever comes first
kept_in_turn : (p q : List ℕ → Bool) (paths : Texts) → filter p (filter q paths) ≡ filter q (filter p paths)
kept_in_turn p q [] = refl
kept_in_turn p q (path ∷ paths) = go (p path) (q path) refl refl (kept_in_turn p q paths)
  where
    go : (a b : Bool) → p path ≡ a → q path ≡ b → filter p (filter q paths) ≡ filter q (filter p paths)
        → filter p (filter q (path ∷ paths)) ≡ filter q (filter p (path ∷ paths))
    go true true passes too later =
        (ap (filter p) (kept q path paths too) ∙ kept p path (filter q paths) passes) ∙ (ap (λ (l : Texts). path ∷ l) later
        ∙ sym (ap (filter q) (kept p path paths passes) ∙ kept q path (filter p paths) too))
    go true false passes other later =
        ap (filter p) (not_kept q path paths other) ∙ (later ∙ sym (ap (filter q) (kept p path paths passes) ∙ not_kept q path (filter p paths) other))
    go false true other passes later =
        (ap (filter p) (kept q path paths passes) ∙ not_kept p path (filter q paths) other) ∙ (later ∙ sym (ap (filter q) (not_kept p path paths other)))
    go false false other too later = ap (filter p) (not_kept q path paths too) ∙ (later ∙ sym (ap (filter q) (not_kept p path paths other)))

-- a test that only those pass that pass the other
kept_again : (p q : List ℕ → Bool) → ((path : List ℕ) → p path ≡ true → q path ≡ true) → (paths : Texts) → filter p (filter q paths) ≡ filter p paths
kept_again p q whenever [] = refl
kept_again p q whenever (path ∷ paths) = go (p path) (q path) refl refl (kept_again p q whenever paths)
  where
    go : (a b : Bool) → p path ≡ a → q path ≡ b → filter p (filter q paths) ≡ filter p paths → filter p (filter q (path ∷ paths)) ≡ filter p (path ∷ paths)
    go true true passes too later =
        (ap (filter p) (kept q path paths too) ∙ kept p path (filter q paths) passes) ∙ (ap (λ (l : Texts). path ∷ l) later ∙ sym (kept p path paths passes))
    go true false passes other later = absurd (no_truth (sym other ∙ whenever path passes))
    go false true other too later = (ap (filter p) (kept q path paths too) ∙ not_kept p path (filter q paths) other) ∙ (later ∙ sym (not_kept p path paths other))
    go false false other too later = ap (filter p) (not_kept q path paths too) ∙ (later ∙ sym (not_kept p path paths other))

none_is_double : (skip : Bool) → (skip && false) ≡ true → ⊥
none_is_double true e = no_truth e
none_is_double false e = no_truth e

module _ (skip : Bool) (l : Layers) where
  abbrev skips : List ℕ → Bool
  skips path = skip && is_double_if_any (visible l path)

  -- what is skipped is there
  skipped_has_value : (path : List ℕ) → skips path ≡ true → has_value l path ≡ true
  skipped_has_value path passes =
      by_bool (has_value l path) (has_value l path ≡ true) (λ there. there)
      (λ other. absurd (none_is_double skip (sym (ap (λ (o : Option Tree). skip && is_double_if_any o) (none_seen (visible_bytes l path) other)) ∙ passes)))

  pub walk_leaves_out : (directory : List ℕ) → left_out skip (visible l) (keys_below (all_paths l.layers) directory) ≡ left_out skip (visible l) (paths_below l directory)
  walk_leaves_out directory =
      sym (ap (filter skips) (paths_are_kept l directory) ∙ kept_again skips (has_value l) skipped_has_value (keys_below (all_paths l.layers) directory))

  pub walk_has_the_others : (directory : List ℕ) →
      settings_at l (not_left_out skip (visible l) (keys_below (all_paths l.layers) directory)) ≡ settings_at l (not_left_out skip (visible l) (paths_below l directory))
  walk_has_the_others directory =
      let others : List ℕ → Bool = λ path. not (skip && is_double_if_any (visible l path)) in
      let keys : Texts = keys_below (all_paths l.layers) directory in
      sym (same_settings l (filter others keys))
      ∙ ap (settings_at l) (kept_in_turn (has_value l) others keys ∙ ap (filter others) (sym (paths_are_kept l directory)))

  pub walk_has_the_seen : (directory : List ℕ) →
      filter (λ path. is_some (visible l path)) (keys_below (all_paths l.layers) directory) ≡ filter (λ path. is_some (visible l path)) (paths_below l directory)
  walk_has_the_seen directory =
      let seen : List ℕ → Bool = λ path. is_some (visible l path) in
      sym (ap (filter seen) (paths_are_kept l directory) ∙ kept_again seen (has_value l) (seen_has_value l) (keys_below (all_paths l.layers) directory))

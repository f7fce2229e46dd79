-- What is said of a store that stands: its values without the user's, its locks, and the settings
-- below a directory.
use Rattle.std.specs.Prelude.{◌≡◌, ◌⊎◌, ◌==◌, ◌-◌, ℕ, zero, suc, Bool, true, false, cond, ◌||◌, List, [], ◌∷◌, drop, Option, Some, None, refl, filter, is_some, Contains, IsTrue, option_and_then}
use Rattle.std.proofs.Common.{ap, sym, ◌∙◌, subst, inl, inr}
use Rattle.std.specs.List.{list_any}
use Rattle.std.specs.Option.{option_or}
use Rattle.std.specs.Str.{bytes_eq}
use Rattle.std.specs.FinMap.{empty, get-empty, keys}
use Rattle.std.specs.Cmp.Lexicographic.{slice_cmp}
use Rattle.std.specs.Ordering.{nat_cmp}
use Rattle.std.proofs.lemmas.Bool.{or_cases, or_left, or_right}
use Rattle.std.proofs.lemmas.List.Elements.{Contains-append_left, Contains-append_right, Contains-append_cases}
use Rattle.gv_model.specs.Tree.{Tree}
use Rattle.dconf_model.specs.Bytes.{MaybeBytes}
use Rattle.dconf_model.specs.Settings.{Settings}
use Rattle.dconf_model.specs.Locks.{is_below}
use Rattle.dconf_model.specs.Values.{held_value}
use Rattle.dconf_model.specs.Sources.{Given, last_value}
use Rattle.dconf_model.specs.Layers.{Layers, visible, visible_bytes, without_user, emptied, all_locks, all_paths, locks_below, paths_below, has_value}
use Rattle.dconf_model.specs.Outcomes.{settings_at, with_value_if_any}
use Rattle.dconf_model.specs.Stores.{OwnValues, StoreHolds, AllGive, IsNamed, is_given, is_lock_given, first_given, level_given, value_given, value_from}
use Rattle.dconf_model.specs.Programs.{own_or_none, settings_given}
use Rattle.dconf_model.proofs.PathMaps.{no_truth}
use Rattle.dconf_model.proofs.HeldLaws.{held_there}
use Rattle.dconf_model.proofs.Listings.{listing_has, listing_from, none_of_none}
use Rattle.dconf_model.proofs.RisingTexts.{kept_is_there, there_is_kept}
use Rattle.dconf_model.proofs.WalkedSettings.{both_tests}
use Rattle.dconf_model.proofs.StoreListings.{key_of, of_key, listed}
use Rattle.dconf_model.proofs.StoreValues.{value_seen}

-- ---- locks

given_lock : (ss : List Settings) (gs : List Given) (p : List ℕ) → AllGive ss gs → Contains (all_locks ss) p → is_lock_given gs p ≡ true
given_lock [] [] p h k = absurd (none_of_none p k)
given_lock [] (g ∷ gs) p h k = absurd h
given_lock (s ∷ ss) [] p h k = absurd h
given_lock (s ∷ ss) (g ∷ gs) p h k =
    let here_is : Bool = list_any (λ lock. bytes_eq lock.path p) g.locks in
    elim (Contains-append_cases (keys s.locks) (all_locks ss) p k) [
      | inl here ↦ or_left here_is (is_lock_given gs p) (sym (h.0.locks p) ∙ of_key s.locks p here)
      | inr later ↦ or_right here_is (is_lock_given gs p) (given_lock ss gs p h.1 later)
    ]

lock_given : (ss : List Settings) (gs : List Given) (p : List ℕ) → AllGive ss gs → is_lock_given gs p ≡ true → Contains (all_locks ss) p
lock_given ss [] p h e = absurd (no_truth e)
lock_given [] (g ∷ gs) p h e = absurd h
lock_given (s ∷ ss) (g ∷ gs) p h e =
    elim (or_cases (list_any (λ lock. bytes_eq lock.path p) g.locks) (is_lock_given gs p) e) [
      | inl here ↦ Contains-append_left (keys s.locks) (all_locks ss) p (key_of s.locks p (h.0.locks p ∙ here))
      | inr later ↦ Contains-append_right (keys s.locks) (all_locks ss) p (lock_given ss gs p h.1 later)
    ]

-- ---- values

-- a value that is seen is given, or the first database's own
one_given : (o : Option Tree) (gs : List Given) (path : List ℕ) → (is_some (first_given gs path) ≡ true → is_given gs path ≡ true) →
    is_some (option_or o (first_given gs path)) ≡ true → (is_some o || is_given gs path) ≡ true
one_given (Some v) gs path later e = refl
one_given None gs path later e = later e

first_is_given : (gs : List Given) (path : List ℕ) → is_some (first_given gs path) ≡ true → is_given gs path ≡ true
first_is_given [] path e = absurd (no_truth e)
first_is_given (g ∷ gs) path e = one_given (last_value g.values path) gs path (first_is_given gs path) e

dropped_is_given : (n : ℕ) (gs : List Given) (path : List ℕ) → is_given (drop n gs) path ≡ true → is_given gs path ≡ true
dropped_is_given zero gs path e = e
dropped_is_given (suc n) [] path e = e
dropped_is_given (suc n) (g ∷ gs) path e = or_right (is_some (last_value g.values path)) (is_given gs path) (dropped_is_given n gs path e)

own_or_given : (own : Option Tree) (gs : List Given) (path : List ℕ) → is_some (option_or own (first_given gs path)) ≡ true →
    (is_given gs path ≡ true) ⊎ (is_some own ≡ true)
own_or_given (Some v) gs path e = inr refl
own_or_given None gs path e = inl (first_is_given gs path e)

seen_is_named : (n : ℕ) (own : OwnValues) (gs : List Given) (path : List ℕ) → is_some (value_from n path (own path) gs) ≡ true → IsNamed own gs path
seen_is_named n own gs path e = go (n == 0) e
  where
    go : (b : Bool) → is_some (cond b (option_or (own path) (first_given gs path)) (first_given (drop (n - 1) gs) path)) ≡ true → IsNamed own gs path
    go true e = own_or_given (own path) gs path e
    go false e = inl (dropped_is_given (n - 1) gs path (first_is_given (drop (n - 1) gs) path e))

module _ (others : List MaybeBytes) (own : OwnValues) (gs : List Given) (l : Layers) (h : StoreHolds others own gs l) where
  -- ---- without the user's values

  none_holds : StoreHolds others (λ path. None) gs (record { layers = emptied l.layers; writable = true })
  none_holds = record {
    first = record { values = empty; locks = h.first.locks };
    later = h.later;
    layers = ap emptied h.layers;
    others_are = h.others_are;
    gives = h.gives;
    own_is = λ path. ap (option_and_then held_value) (get-empty (slice_cmp nat_cmp) path);
  }

  pub default_seen : (b : Bool) → l.writable ≡ b → (path : List ℕ) → visible (without_user l) path ≡ value_given path (own_or_none b (own path)) gs
  default_seen true e path =
      ap (λ b. visible (cond b (record { layers = emptied l.layers; writable = true }) l) path) e
      ∙ value_seen others (λ path. None) gs (record { layers = emptied l.layers; writable = true }) none_holds path
  default_seen false e path =
      ap (λ b. visible (cond b (record { layers = emptied l.layers; writable = true }) l) path) e ∙ value_seen others own gs l h path

  -- ---- locks below a directory

  abbrev IsLockBelow : List ℕ → List ℕ → Type 0
  IsLockBelow directory lock = IsTrue (is_below lock directory) × IsTrue (is_lock_given gs lock)

  pub locks_from : (directory lock : List ℕ) → Contains (locks_below l directory) lock → IsLockBelow directory lock
  locks_from directory lock k =
      let test : List ℕ → Bool = λ lock. is_below lock directory in
      let all = all_locks (drop 1 l.layers) in
      let both = kept_is_there test all lock (listing_from (filter test all) lock k) in
      (both.1, given_lock h.later gs lock h.gives (subst (λ ls. Contains (all_locks (drop 1 ls)) lock) h.layers both.0))

  pub locks_to : (directory lock : List ℕ) → IsLockBelow directory lock → Contains (locks_below l directory) lock
  locks_to directory lock k =
      let test : List ℕ → Bool = λ lock. is_below lock directory in
      let all = all_locks (drop 1 l.layers) in
      let there = subst (λ ls. Contains (all_locks (drop 1 ls)) lock) (sym h.layers) (lock_given h.later gs lock h.gives k.1) in
      listing_has (filter test all) lock (there_is_kept test all lock there k.0)

  -- ---- settings below a directory

  abbrev IsPathBelow : List ℕ → List ℕ → Type 0
  IsPathBelow directory path = IsTrue (is_below path directory) × IsTrue (is_some (value_given path (own path) gs))

  has_seen : (path : List ℕ) → has_value l path ≡ is_some (value_given path (own path) gs)
  has_seen path = sym (held_there (visible_bytes l path)) ∙ ap is_some (value_seen others own gs l h path)

  pub paths_from : (directory path : List ℕ) → Contains (paths_below l directory) path → IsPathBelow directory path
  paths_from directory path k =
      let test : List ℕ → Bool = λ path. cond (is_below path directory) (has_value l path) false in
      let all = all_paths l.layers in
      let kept = kept_is_there test all path (listing_from (filter test all) path k) in
      let both = both_tests (is_below path directory) (has_value l path) kept.1 in
      (both.0, sym (has_seen path) ∙ both.1)

  pub paths_to : (directory path : List ℕ) → IsPathBelow directory path → Contains (paths_below l directory) path
  paths_to directory path k =
      let test : List ℕ → Bool = λ path. cond (is_below path directory) (has_value l path) false in
      let all = all_paths l.layers in
      let named = seen_is_named (level_given 1 gs path) own gs path k.1 in
      let there = subst (λ ls. Contains (all_paths ls) path) (sym h.layers) (listed others own gs l h path named) in
      let passes : test path ≡ true = ap (λ b. cond b (has_value l path) false) k.0 ∙ (has_seen path ∙ k.1) in
      listing_has (filter test all) path (there_is_kept test all path there passes)

  pub settings_seen : (paths : List (List ℕ)) → settings_at l paths ≡ settings_given own gs paths
  settings_seen [] = refl
  settings_seen (path ∷ more) =
      ap (λ v. with_value_if_any path v (settings_at l more)) (value_seen others own gs l h path)
      ∙ ap (with_value_if_any path (value_given path (own path) gs)) (settings_seen more)

-- Of the keys that differ none is missing that is shown otherwise.
use Rattle.std.specs.Prelude.{Contains, filter, is_some, option_and_then, option_map}
use Rattle.std.proofs.Common.{◌≡◌, ◌≢◌, ◌≤◌, ◌⊎◌, ◌∙◌, ◌&&◌, ◌++◌, ◌+◌, ℕ, zero, suc, Bool, true, false, List, [], ◌∷◌, Option, Some, None, drop, length, ap, sym, refl, subst, inl, inr}
use Rattle.std.specs.FinMap.{get, keys}
use Rattle.std.specs.List.{list_any}
use Rattle.std.specs.Str.{bytes_eq}
use Rattle.std.proofs.lemmas.List.{append-nil, take_all}
use Rattle.std.proofs.lemmas.List.Elements.{Contains-append_left, Contains-append_right}
use Rattle.dconf_model.specs.Layers.{Layers, all_paths, first_from, level, place_or, visible}
use Rattle.dconf_model.specs.Settings.{Settings}
use Rattle.dconf_model.specs.Values.{held_value}
use Rattle.dconf_model.proofs.FirstKeys.{first_keys_are_enough}
use Rattle.dconf_model.proofs.Listings.{listing_has}
use Rattle.dconf_model.proofs.ListingOrder.{find_text, found_text}
use Rattle.dconf_model.proofs.PathMaps.{no_truth}
use Rattle.dconf_model.proofs.StoreListings.{key_of}
use Rattle.dconf_layers.proofs.PathTests.{any_passing}
use Rattle.dconf_differences.specs.Differing.{AreDiffering, first_keys, with_first}
use Rattle.dconf_told.specs.Telling.{HasAllOthers, after_first}

both : (a b : Bool) → a ≡ true → b ≡ true → (a && b) ≡ true
both true b e f = f
both false b e f = absurd (no_truth e)

-- ---- a path that no layer has

abbrev NoneHas : List Settings → List ℕ → Type 0
NoneHas ss p = (i k : ℕ) → first_from i (drop k ss) p ≡ None

no_layer_has : (p : List ℕ) → NoneHas [] p
no_layer_has p i zero = refl
no_layer_has p i (suc k) = refl

none_has : (s : Settings) (later : List Settings) (p : List ℕ) → get s.values p ≡ None → NoneHas later p → NoneHas (s ∷ later) p
none_has s later p e n i zero = ap (λ o. place_or i o (first_from (i + 1) later p)) e ∙ n (i + 1) 0
none_has s later p e n i (suc k) = n i k

this_or_later : (s : Settings) (later : List Settings) (p : List ℕ) → NoneHas later p ⊎ Contains (all_paths later) p → (o : Option (List ℕ)) → get s.values p ≡ o →
    NoneHas (s ∷ later) p ⊎ Contains (all_paths (s ∷ later)) p
this_or_later s later p rest (Some bytes) e = inr (Contains-append_left (keys s.values) (all_paths later) p (key_of s.values p (ap is_some e)))
this_or_later s later p rest None e = elim rest [
  | inl n ↦ inl (none_has s later p e n)
  | inr there ↦ inr (Contains-append_right (keys s.values) (all_paths later) p there)
]

none_or_there : (ss : List Settings) (p : List ℕ) → NoneHas ss p ⊎ Contains (all_paths ss) p
none_or_there [] p = inl (no_layer_has p)
none_or_there (s ∷ later) p = this_or_later s later p (none_or_there later p) (get s.values p) refl

shows_none : (l : Layers) (p : List ℕ) → NoneHas l.layers p → visible l p ≡ None
shows_none l p n = ap (λ o. option_and_then held_value (option_map (λ p. p.1) o)) (n (level l p) (level l p))

pub there : (l m : Layers) (p : List ℕ) → visible l p ≢ visible m p → Contains (all_paths l.layers ++ all_paths m.layers) p
there l m p other = elim (none_or_there l.layers p) [
  | inr has ↦ Contains-append_left (all_paths l.layers) (all_paths m.layers) p has
  | inl n ↦ elim (none_or_there m.layers p) [
    | inr has ↦ Contains-append_right (all_paths l.layers) (all_paths m.layers) p has
    | inl k ↦ absurd (other (shows_none l p n ∙ sym (shows_none m p k)))
  ]
]

-- ---- the keys that differ

of_asked : (l m : Layers) (asked paths : List (List ℕ)) (p : List ℕ) → AreDiffering l m asked paths → visible l p ≢ visible m p → Contains asked p → Contains paths p
of_asked l m asked paths p d other has =
    subst (λ (ps : List (List ℕ)). Contains ps p) (sym d.are)
    (listing_has (filter d.test asked) p (found_text p (filter d.test asked)
    (any_passing p d.test asked ∙ both (d.test p) (list_any (bytes_eq p) asked) ((d.tells p).1 (inr other)) (find_text p asked has))))

pub has_all : (l m : Layers) (n : ℕ) (paths : List (List ℕ)) → length l.layers ≤ n → length m.layers ≤ n → AreDiffering l m (first_keys n l ++ first_keys n m) paths → HasAllOthers l m paths
has_all l m n paths first second d p other =
    let all : first_keys n l ++ first_keys n m ≡ all_paths l.layers ++ all_paths m.layers = (λ i. all_paths (take_all n l.layers first i) ++ all_paths (take_all n m.layers second i)) in
    of_asked l m (first_keys n l ++ first_keys n m) paths p d other (subst (λ (ps : List (List ℕ)). Contains ps p) (sym all) (there l m p other))

pub first_has_all : (w : Bool) (s : Settings) (m : Layers) (paths : List (List ℕ)) → AreDiffering m (with_first m s) (first_keys 1 m ++ keys s.values) paths → HasAllOthers (after_first w s m) m paths
first_has_all w s m paths d p other =
    let turned : visible m p ≢ visible (with_first m s) p = λ e. other (sym e) in
    of_asked m (with_first m s) (first_keys 1 m ++ keys s.values) paths p d turned
    (subst (λ (ks : List (List ℕ)). Contains (first_keys 1 m ++ ks) p) (append-nil (keys s.values)) (first_keys_are_enough m (with_first m s) p refl (inr turned)))

-- as it is given
pub all_given : (l m : Layers) (n : ℕ) (given items : List (List ℕ)) → given ≡ items → length l.layers ≤ n → length m.layers ≤ n → AreDiffering l m (first_keys n l ++ first_keys n m) items → HasAllOthers l m given
all_given l m n given items is first second d = subst (HasAllOthers l m) (sym is) (has_all l m n items first second d)

pub first_given : (w : Bool) (s : Settings) (l m : Layers) (given items : List (List ℕ)) → l ≡ after_first w s m → given ≡ items → AreDiffering m (with_first m s) (first_keys 1 m ++ keys s.values) items → HasAllOthers l m given
first_given w s l m given items before is d = subst (λ (l : Layers). HasAllOthers l m given) (sym before) (subst (HasAllOthers (after_first w s m) m) (sym is) (first_has_all w s m items d))

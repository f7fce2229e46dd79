-- The level of a path and the place of its value, layer by layer.
use Rattle.std.proofs.Common.{◌≡◌, ◌+◌, ◌<◌, ◌≤◌, ℕ, zero, suc, Bool, true, false, cond, List, [], ◌∷◌, length, drop, get_or, Option, Some, None, refl, sym, ap, ◌∙◌, arith, ne_eqb, map, subst}
use Rattle.std.proofs.lemmas.List.{get_or-map, drop_all, length-map}
use Rattle.std.proofs.lemmas.Option.{same_Some}
use Rattle.std.specs.Cmp.Lexicographic.{slice_cmp}
use Rattle.std.specs.Ordering.{nat_cmp}
use Rattle.std.specs.FinMap.{get, get-empty}
use Rattle.dconf_model.specs.Layers.{Layers, Place, greatest_from, later_or, level, locks_path, first_from, place_or, place_of, emptied, without_user}
use Rattle.dconf_model.specs.Settings.{Settings, no_settings}
use Rattle.dconf_layers.specs.declared.layer.Layer.{Layer}
use Rattle.dconf_layers.specs.LayerSettings.{settings_of}

-- ---- one layer

pub layer_lent : (items : List Layer) (i : ℕ) (item : Layer) → i < length (map settings_of items) → settings_of (get_or items i item) ≡ get_or (map settings_of items) i no_settings
layer_lent items i item within = let n = length-map items settings_of in sym (get_or-map settings_of items i item no_settings (omega (arith, n, within)))

-- ---- the level

later_some : (n here : ℕ) → 0 < n → later_or n here ≡ n
later_some n here some = ap (λ b. cond b here n) (ne_eqb n 0 (λ e. absurd (omega (arith, some, e))))

-- none of the layers from a place on passes
abbrev pub NoneFrom : (Settings → Bool) → List Settings → ℕ → Type 0
NoneFrom P xs i = (k : ℕ) → i ≤ k → k < length xs → P (get_or xs k no_settings) ≡ false

none_later : (P : Settings → Bool) (s : Settings) (xs : List Settings) (i : ℕ) → NoneFrom P (s ∷ xs) (suc i) → NoneFrom P xs i
none_later P s xs i none k from within = none (suc k) (omega (arith, from)) (omega (arith, within))

greatest_none : (from : ℕ) (P : Settings → Bool) (xs : List Settings) → NoneFrom P xs 0 → greatest_from from P xs ≡ 0
greatest_none from P [] none = refl
greatest_none from P (s ∷ xs) none =
    let here : P s ≡ false = none 0 (omega arith) (omega arith) in
    let later = greatest_none (from + 1) P xs (none_later P s xs 0 (λ k low within. none k (omega arith) within)) in
    rw (later, here) refl

greatest_at : (from : ℕ) (P : Settings → Bool) (xs : List Settings) (j : ℕ) → 0 < from → j < length xs → P (get_or xs j no_settings) ≡ true → NoneFrom P xs (j + 1) →
    greatest_from from P xs ≡ from + j
greatest_at from P [] j some within is none = absurd (omega (arith, within))
greatest_at from P (s ∷ xs) zero some within is none =
    let later = greatest_none (from + 1) P xs (none_later P s xs 0 none) in
    let here : P s ≡ true = is in
    rw (later, here) omega arith
greatest_at from P (s ∷ xs) (suc j) some within is none =
    let later = greatest_at (from + 1) P xs j (omega arith) (omega (arith, within)) is (none_later P s xs (j + 1) (let e : suc j + 1 ≡ suc (j + 1) = omega arith in subst (NoneFrom P (s ∷ xs)) e none)) in
    ap (λ n. later_or n (cond (P s) from 0)) later ∙ (later_some (from + 1 + j) (cond (P s) from 0) (omega arith) ∙ omega arith)

-- over all layers but the first
pub level_none : (P : Settings → Bool) (xs : List Settings) → NoneFrom P xs 1 → greatest_from 1 P (drop 1 xs) ≡ 0
level_none P [] none = refl
level_none P (s ∷ xs) none = greatest_none 1 P xs (none_later P s xs 0 none)

pub level_at : (P : Settings → Bool) (xs : List Settings) (i : ℕ) → 1 ≤ i → i < length xs → P (get_or xs i no_settings) ≡ true → NoneFrom P xs (i + 1) → greatest_from 1 P (drop 1 xs) ≡ i
level_at P [] i some within is none = absurd (omega (arith, within))
level_at P (s ∷ xs) zero some within is none = absurd (omega (arith, some))
level_at P (s ∷ xs) (suc j) some within is none = greatest_at 1 P xs j (omega arith) (omega (arith, within)) is (none_later P s xs (j + 1) (let e : suc j + 1 ≡ suc (j + 1) = omega arith in subst (NoneFrom P (s ∷ xs)) e none)) ∙ omega arith

later_below : (n here bound : ℕ) → n < bound → here < bound → later_or n here < bound
later_below zero here bound n_below here_below = here_below
later_below (suc n) here bound n_below here_below = let e = later_some (suc n) here (omega arith) in omega (arith, e, n_below)

here_below : (b : Bool) (from j : ℕ) → cond b from 0 < from + suc j
here_below true from j = omega arith
here_below false from j = omega arith

greatest_below : (from : ℕ) (P : Settings → Bool) (xs : List Settings) (j : ℕ) → 0 < from → NoneFrom P xs j → greatest_from from P xs < from + j
greatest_below from P [] j some none = omega (arith, some)
greatest_below from P (s ∷ xs) zero some none = let e = greatest_none from P (s ∷ xs) none in omega (arith, some, e)
greatest_below from P (s ∷ xs) (suc j) some none =
    let later : greatest_from (from + 1) P xs < from + 1 + j = greatest_below (from + 1) P xs j (omega arith) (none_later P s xs j none) in
    later_below (greatest_from (from + 1) P xs) (cond (P s) from 0) (from + suc j) (omega (arith, later)) (here_below (P s) from j)

pub level_below : (P : Settings → Bool) (xs : List Settings) (i : ℕ) → NoneFrom P xs (i + 1) → greatest_from 1 P (drop 1 xs) ≤ i
level_below P [] i none = omega arith
level_below P (s ∷ xs) i none =
    let below = greatest_below 1 P xs i (omega arith) (none_later P s xs i (let e : i + 1 ≡ suc i = omega arith in subst (NoneFrom P (s ∷ xs)) e none)) in omega (arith, below)

pub told_level : (n k : ℕ) → (0 < n → n ≡ k) → (n ≤ 0 → k ≤ 0) → n ≡ k
told_level zero k above none = let low = none (omega arith) in omega (arith, low)
told_level (suc n) k above none = above (omega arith)

-- ---- the place

pub place_end : (xs : List Settings) (i : ℕ) (path : List ℕ) → length xs ≤ i → first_from i (drop i xs) path ≡ None
place_end xs i path past = ap (λ (ss : List Settings). first_from i ss path) (drop_all i xs past)

later_none : (i : ℕ) (o : Option (List ℕ)) (later : Option Place) → place_or i o later ≡ None → later ≡ None
later_none i None later e = e
later_none i (Some bytes) later e = absurd cc

later_found : (i : ℕ) (o : Option (List ℕ)) (later : Option Place) (p : Place) → place_or i o later ≡ Some p → i < p.0 → later ≡ Some p
later_found i None later p e after = e
later_found i (Some bytes) later p e after = let same : i ≡ p.0 = ap (λ q. q.0) (same_Some (i, bytes) p e) in absurd (omega (arith, same, after))

-- what no layer has, none has from a later one on
none_from : (i n : ℕ) (xs : List Settings) (path : List ℕ) → first_from i xs path ≡ None → first_from (i + n) (drop n xs) path ≡ None
none_from i zero xs path none = let e : i + 0 ≡ i = omega arith in ap (λ k. first_from k xs path) e ∙ none
none_from i (suc n) [] path none = refl
none_from i (suc n) (s ∷ xs) path none =
    let e : i + suc n ≡ i + 1 + n = omega arith in
    ap (λ k. first_from k (drop n xs) path) e ∙ none_from (i + 1) n xs path (later_none i (get s.values path) (first_from (i + 1) xs path) none)

-- what a layer has first of all, it has first from each layer on that is not after it
found_from : (i n : ℕ) (xs : List Settings) (path : List ℕ) (p : Place) → first_from i xs path ≡ Some p → i + n ≤ p.0 → first_from (i + n) (drop n xs) path ≡ Some p
found_from i zero xs path p found within = let e : i + 0 ≡ i = omega arith in ap (λ k. first_from k xs path) e ∙ found
found_from i (suc n) [] path p found within = absurd cc
found_from i (suc n) (s ∷ xs) path p found within =
    let e : i + suc n ≡ i + 1 + n = omega arith in
    ap (λ k. first_from k (drop n xs) path) e
    ∙ found_from (i + 1) n xs path p (later_found i (get s.values path) (first_from (i + 1) xs path) p found (omega (arith, within))) (omega (arith, within))

pub no_place : (l : Layers) (path : List ℕ) → first_from 0 l.layers path ≡ None → None ≡ place_of l path
no_place l path none =
    let n = level l path in
    let e : n ≡ 0 + n = omega arith in
    sym (ap (λ k. first_from k (drop n l.layers) path) e ∙ none_from 0 n l.layers path none)

pub first_place : (l : Layers) (path : List ℕ) (p : Place) → first_from 0 l.layers path ≡ Some p → level l path ≤ p.0 → Some p ≡ place_of l path
first_place l path p found low =
    let n = level l path in
    let e : n ≡ 0 + n = omega arith in
    sym (ap (λ k. first_from k (drop n l.layers) path) e ∙ found_from 0 n l.layers path p found (omega (arith, low)))

-- ---- all layers but the first

drop_later : (xs : List Settings) (n : ℕ) → drop (suc n) xs ≡ drop n (drop 1 xs)
drop_later [] n = sym (drop_all n [] (omega arith))
drop_later (s ∷ xs) n = refl

pub place_later : (xs ys : List Settings) (from : ℕ) (path : List ℕ) → 0 < from → drop 1 xs ≡ drop 1 ys → first_from from (drop from xs) path ≡ first_from from (drop from ys) path
place_later xs ys zero path some e = absurd (omega (arith, some))
place_later xs ys (suc n) path some e =
    ap (λ (ss : List Settings). first_from (suc n) ss path) (drop_later xs n ∙ (ap (drop n) e ∙ sym (drop_later ys n)))

-- ---- without the user's values

default_first : (s : Settings) (more : List Settings) (path : List ℕ) → first_from 0 (emptied (s ∷ more)) path ≡ first_from 1 more path
default_first s more path = ap (λ o. place_or 0 o (first_from 1 more path)) (get-empty (slice_cmp nat_cmp) path)

pub default_low : (l : Layers) (path : List ℕ) (n : ℕ) → l.writable ≡ true → n ≡ 0 → n ≡ level l path → first_from 1 (drop 1 l.layers) path ≡ place_of (without_user l) path
default_low l path n writable low is = go l.layers (sym is ∙ low) ∙ sym (ap (λ b. place_of (cond b (record { layers = emptied l.layers; writable = true }) l) path) writable)
  where
    go : (xs : List Settings) → greatest_from 1 (locks_path path) (drop 1 xs) ≡ 0 → first_from 1 (drop 1 xs) path ≡ place_of (record { layers = emptied xs; writable = true }) path
    go [] e = refl
    go (s ∷ more) e = sym (ap (λ k. first_from k (drop k (emptied (s ∷ more))) path) e ∙ default_first s more path)

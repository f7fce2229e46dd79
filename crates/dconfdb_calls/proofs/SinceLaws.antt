-- What is seen otherwise, of one key and of those below a directory.
use Rattle.std.specs.Prelude.{◌↔◌, Contains, IfOk, IsTrue, filter, map, slice_get}
use Rattle.std.specs.String.{string_bytes}
use Rattle.std.specs.declared.alloc.AllocError.{AllocError}
use Rattle.std.specs.declared.alloc.Global.{Global}
use Rattle.std.specs.declared.string.String.{String}
use Rattle.std.specs.List.{list_any}
use Rattle.std.specs.Str.{bytes_eq}
use Rattle.std.proofs.Common.{◌≡◌, ◌<◌, ◌≤◌, ◌+◌, ◌++◌, ◌&&◌, ◌||◌, ◌∷◌, [], ℕ, Bool, true, false, List, Result, Some, get_or, length, max, refl, sym, ap, ap₂, subst, subst₂, ◌∙◌, inl, inr, arith}
use Rattle.std.proofs.lemmas.Bool.{and_parts, cases_lt, or_cases, or_left, or_right}
use Rattle.std.proofs.Math.Nat.{le-max_left, le-max_right}
use Rattle.std.proofs.lemmas.List.{length-map, take_all}
use Rattle.std.proofs.lemmas.Option.{get_or_from_slice_get, slice_get_within}
use Rattle.dconf_model.specs.Layers.{Layers, all_paths}
use Rattle.dconf_model.specs.Locks.{is_below}
use Rattle.dconf_model.specs.Paths.{ends_with_slash}
use Rattle.dconf_model.specs.Salvaging.{IsKeyText}
use Rattle.dconf_model.proofs.ListingOrder.{find_text, found_text}
use Rattle.dconf_model.proofs.Listings.{first_or_later, has_first, has_later, listing_from, listing_has, none_of_none}
use Rattle.dconf_model.proofs.PathMaps.{no_truth}
use Rattle.dconf_differences.specs.Differing.{AreDiffering, Differs, first_keys}
use Rattle.dconf_layers.specs.LayerSettings.{settings_of}
use Rattle.dconf_layers.specs.declared.layer.Layer.{Layer}
use Rattle.dconf_layers.proofs.PathTests.{any_passing}
use Rattle.dconfdb_calls.specs.declared.changes.DconfdbChange.{DconfdbChange}
use Rattle.dconfdb_calls.specs.Given.{IsDirectory}
use Rattle.dconfdb_calls.specs.Seen.{layers_of}
use Rattle.dconfdb_calls.specs.Since.{IsChangedAt, IsChangedBelow, IsChangedSince}

-- ---- below a directory

-- one of these texts passes a test
record Passes (f : List ℕ → Bool) (texts : List (List ℕ)) : Type 0 where
  pub text : List ℕ
  pub there : Contains texts text
  pub passes : f text ≡ true

any_passes : (f : List ℕ → Bool) (texts : List (List ℕ)) → list_any f texts ≡ true → Passes f texts
any_passes f [] e = absurd (no_truth e)
any_passes f (t ∷ ts) e =
    elim (or_cases (f t) (list_any f ts) e) [
      | inl here ↦ record { text = t; there = has_first t ts; passes = here }
      | inr later ↦ (let h = any_passes f ts later in record { text = h.text; there = has_later t ts h.text h.there; passes = h.passes })
    ]

passes_any : (f : List ℕ → Bool) (texts : List (List ℕ)) (text : List ℕ) → Contains texts text → f text ≡ true → list_any f texts ≡ true
passes_any f [] text there e = absurd (none_of_none text there)
passes_any f (t ∷ ts) text there e =
    elim (first_or_later t ts text there) [
      | inl same ↦ or_left (f t) (list_any f ts) (ap f same ∙ e)
      | inr later ↦ or_right (f t) (list_any f ts) (passes_any f ts text later e)
    ]

in_filter : (f : List ℕ → Bool) (texts : List (List ℕ)) (text : List ℕ) → Contains texts text → f text ≡ true → Contains (filter f texts) text
in_filter f texts text there e =
    found_text text (filter f texts) (any_passing text f texts ∙ ap₂ (λ a b. a && b) e (find_text text texts there))

from_filter : (f : List ℕ → Bool) (texts : List (List ℕ)) (text : List ℕ) → Contains (filter f texts) text → (f text ≡ true) × Contains texts text
from_filter f texts text there =
    let both = and_parts (f text) (list_any (bytes_eq text) texts) (sym (any_passing text f texts) ∙ find_text text (filter f texts) there) in
    (both.0, found_text text texts both.1)

keys_of_all : (l m : Layers) (count : ℕ) → length l.layers ≤ count → length m.layers ≤ count →
    (first_keys count l ++ first_keys count m) ≡ (all_paths l.layers ++ all_paths m.layers)
keys_of_all l m count one other = ap₂ (λ xs ys. all_paths xs ++ all_paths ys) (take_all count l.layers one) (take_all count m.layers other)

-- one of the keys that differ lies below the directory
below_told : (l m : Layers) (keys paths : List (List ℕ)) (directory : List ℕ) → keys ≡ (all_paths l.layers ++ all_paths m.layers) → AreDiffering l m keys paths →
    (list_any (λ path. is_below path directory) paths ≡ true) ↔ IsChangedBelow l m directory
below_told l m keys paths directory all d = (
  λ any.
      let found = any_passes (λ path. is_below path directory) paths any in
      let listed = from_filter d.test keys found.text (listing_from (filter d.test keys) found.text (subst (λ ps. Contains ps found.text) d.are found.there)) in
      record { path = found.text; key = subst (λ ks. Contains ks found.text) all listed.1; below = found.passes; differs = (d.tells found.text).0 listed.0 },
  λ h.
      let listed = in_filter d.test keys h.path (subst (λ ks. Contains ks h.path) (sym all) h.key) ((d.tells h.path).1 h.differs) in
      passes_any (λ path. is_below path directory) paths h.path (subst (λ ps. Contains ps h.path) (sym d.are) (listing_has (filter d.test keys) h.path listed)) h.below,
)

any_mapped : (f : List ℕ → Bool) (texts : List (String Global)) → list_any (λ text. f (string_bytes text)) texts ≡ list_any f (map string_bytes texts)
any_mapped f [] = refl
any_mapped f (text ∷ texts) = ap (λ b. f (string_bytes text) || b) (any_mapped f texts)

-- the same of what is found, in the words of the code
pub found_below : (one other : List Layer) (count : ℕ) (paths : List (List ℕ)) (l m : Layers) → count ≡ max (length one) (length other) → l ≡ layers_of one true → m ≡ layers_of other true →
    AreDiffering l m (first_keys count l ++ first_keys count m) paths →
    AreDiffering (layers_of one true) (layers_of other true) (all_paths (layers_of one true).layers ++ all_paths (layers_of other true).layers) paths
found_below one other count paths l m most one_is other_is d =
    let a = layers_of one true in
    let b = layers_of other true in
    let first : length a.layers ≤ count = subst₂ (λ (x y : ℕ). x ≤ y) (sym (length-map one settings_of)) (sym most) (le-max_left (length one) (length other)) in
    let second : length b.layers ≤ count = subst₂ (λ (x y : ℕ). x ≤ y) (sym (length-map other settings_of)) (sym most) (le-max_right (length one) (length other)) in
    subst (λ ks. AreDiffering a b ks paths) (keys_of_all a b count first second)
    (subst₂ (λ (x y : Layers). AreDiffering x y (first_keys count x ++ first_keys count y) paths) one_is other_is d)

pub below_answer : (l m : Layers) (paths : List (String Global)) (directory : List ℕ) (is : Bool) → ends_with_slash directory ≡ true →
    AreDiffering l m (all_paths l.layers ++ all_paths m.layers) (map string_bytes paths) →
    IsTrue is ↔ (IsDirectory directory × IsTrue (list_any (λ path. is_below (string_bytes path) directory) paths)) → IsTrue is ↔ IsChangedSince l m directory
below_answer l m paths directory is e d h =
    let told = below_told l m (all_paths l.layers ++ all_paths m.layers) (map string_bytes paths) directory refl d in
    let mapped = any_mapped (λ path. is_below path directory) paths in
    subst (λ (b : Bool). IsTrue is ↔ IsChangedAt b l m directory) (sym e)
    (λ yes. ((h.0 yes).0, told.0 (sym mapped ∙ (h.0 yes).1)), λ changed. h.1 (changed.0, mapped ∙ told.1 changed.1))

-- ---- a path of either kind

pub as_key : (r : Result Bool AllocError) (l m k n : Layers) (path : List ℕ) → k ≡ l → n ≡ m → ends_with_slash path ≡ false →
    IfOk r (λ is. IsTrue is ↔ (IsKeyText path × Differs k n path)) → IfOk r (λ is. IsTrue is ↔ IsChangedSince l m path)
as_key r l m k n path one other e h =
    subst (λ (b : Bool). IfOk r (λ is. IsTrue is ↔ IsChangedAt b l m path)) (sym e)
    (subst₂ (λ (x y : Layers). IfOk r (λ is. IsTrue is ↔ (IsKeyText path × Differs x y path))) one other h)

-- ---- the first of the changes

-- none before this index is at a path where something else is seen
abbrev pub NoneSince : Layers → Layers → List DconfdbChange → ℕ → Type 0
NoneSince l m changes at = (i : ℕ) (c : DconfdbChange) → i < at → slice_get changes i ≡ Some c → ¬ IsChangedSince l m c.path.now

pub one_more : (l m : Layers) (changes : List DconfdbChange) (at : ℕ) (d : DconfdbChange) → NoneSince l m changes at → ¬ IsChangedSince l m (get_or changes at d).path.now →
    NoneSince l m changes (at + 1)
one_more l m changes at d none not i c within is =
    elim (cases_lt i at) [
      | inl before ↦ none i c before is
      | inr here ↦
          (let same : i ≡ at = omega (arith, within, here) in
          λ changed. not (subst (λ (x : DconfdbChange). IsChangedSince l m x.path.now)
          (sym (ap (λ (j : ℕ). get_or changes j d) (sym same) ∙ get_or_from_slice_get changes i c d is)) changed))
    ]

pub none_at_all : (l m : Layers) (changes : List DconfdbChange) (at : ℕ) → length changes ≤ at → NoneSince l m changes at →
    (i : ℕ) (c : DconfdbChange) → slice_get changes i ≡ Some c → ¬ IsChangedSince l m c.path.now
none_at_all l m changes at end none i c is = none i c (let within = slice_get_within changes i c is in omega (arith, within, end)) is

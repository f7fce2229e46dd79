-- Exactly the keys that edits are of are gathered.
use Rattle.std.specs.Prelude.{◌↔◌, Contains, cond, filter, map}
use Rattle.std.proofs.Common.{◌≡◌, ◌∙◌, ◌++◌, ℕ, Bool, true, false, List, [], ◌∷◌, Option, not, ap, sym, refl, subst, inl, inr}
use Rattle.std.specs.FinMap.{empty, keys}
use Rattle.std.specs.List.{flat_map}
use Rattle.std.specs.Str.{is_utf8}
use Rattle.std.proofs.lemmas.Bool.{and_parts}
use Rattle.std.proofs.lemmas.List.Elements.{Contains-append_cases, Contains-append_left, Contains-append_right}
use Rattle.std.proofs.lemmas.Str.{IsUtf8-from_is_utf8, is_utf8-from_IsUtf8}
use Rattle.dconf_model.specs.Layers.{Layers, all_paths}
use Rattle.dconf_model.specs.Locks.{is_below}
use Rattle.dconf_model.specs.Order.{listing}
use Rattle.dconf_model.specs.Paths.{ends_with_slash, is_directory_path, is_key_path, is_path}
use Rattle.dconf_model.specs.Salvaging.{IsKeyText}
use Rattle.dconf_model.specs.Settings.{Settings}
use Rattle.dconf_model.specs.Walks.{keys_below}
use Rattle.dconf_model.proofs.Listings.{first_or_later, has_first, has_later, listing_from, listing_has, none_of_none}
use Rattle.dconf_model.proofs.ListingOrder.{listing_is_once_each}
use Rattle.dconf_model.proofs.ParentLaws.{by_bool}
use Rattle.dconf_model.proofs.PathMaps.{and_false}
use Rattle.dconf_model.proofs.RisingTexts.{kept_is_there, there_is_kept}
use Rattle.dconf_layers.specs.Children.{seen_path, seen_row, shown_at}
use Rattle.dconf_layers.specs.TextSets.{TextSet, with_text, with_texts}
use Rattle.dconf_layers.specs.declared.seen.SeenKey.{SeenKey}
use Rattle.dconf_layers.proofs.TextSetLaws.{keys_are_listed}
use Rattle.dconf_told.specs.Own.{AreOwn, IsDirectoryText, IsOwn, below_in, is_directory_text, keys_of, own_of}
use Rattle.dconf_told.specs.Telling.{is_key_text}
use Rattle.dconf_told.proofs.TellingLaws.{both_true, key_told}

-- ---- what a directory has

abbrev first_of : List ℕ × Option (List ℕ) → List ℕ
first_of row = row.0

rows_first : (found : List SeenKey) → map first_of (map seen_row found) ≡ map seen_path found
rows_first [] = refl
rows_first (key ∷ found) = ap (λ (ps : List (List ℕ)). seen_path key ∷ ps) (rows_first found)

shown_first : (l : Layers) (paths : List (List ℕ)) → map first_of (map (shown_at l) paths) ≡ paths
shown_first l [] = refl
shown_first l (path ∷ paths) = ap (λ (ps : List (List ℕ)). path ∷ ps) (shown_first l paths)

pub paths_found : (l : Layers) (found : List SeenKey) (paths : List (List ℕ)) → map seen_row found ≡ map (shown_at l) paths → map seen_path found ≡ paths
paths_found l found paths e = sym (rows_first found) ∙ (ap (map first_of) e ∙ shown_first l paths)

below_here : (paths : List (List ℕ)) (directory path : List ℕ) → Contains (keys_below paths directory) path → Contains paths path × (is_below path directory ≡ true)
below_here paths directory path h =
    let below : List ℕ → Bool = λ p. is_below p directory in
    kept_is_there below paths path (listing_from (filter below paths) path h)

here_below : (paths : List (List ℕ)) (directory path : List ℕ) → Contains paths path → is_below path directory ≡ true → Contains (keys_below paths directory) path
here_below paths directory path h e =
    let below : List ℕ → Bool = λ p. is_below p directory in
    listing_has (filter below paths) path (there_is_kept below paths path h e)

-- ---- what an edit names

directory_told : (p : List ℕ) → (is_directory_text p ≡ true) ↔ IsDirectoryText p
directory_told p = (
  λ e. let b = and_parts (is_utf8 p) (is_directory_path p) e in (IsUtf8-from_is_utf8 p b.0, b.1),
  λ h. both_true (is_utf8 p) (is_directory_path p) (is_utf8-from_IsUtf8 p h.0) h.1,
)

pub no_key : (p : List ℕ) → IsDirectoryText p → is_key_text p ≡ false
no_key p is =
    let ends : ends_with_slash p ≡ true = (and_parts (is_path p) (ends_with_slash p) is.1).1 in
    and_false (is_utf8 p) (is_key_path p) (and_false (is_path p) (not (ends_with_slash p)) (ap not ends))

-- ---- each of some edits

from_each : (f : List ℕ → List (List ℕ)) (xs : List (List ℕ)) (y : List ℕ) → Contains (flat_map f xs) y → (x : List ℕ) × Contains xs x × Contains (f x) y
from_each f [] y h = absurd (none_of_none y h)
from_each f (x ∷ xs) y h = elim (Contains-append_cases (f x) (flat_map f xs) y h) [
  | inl here ↦ (x, has_first x xs, here)
  | inr there ↦ let w = from_each f xs y there in (w.0, has_later x xs w.0 w.1, w.2)
]

in_each : (f : List ℕ → List (List ℕ)) (xs : List (List ℕ)) (x y : List ℕ) → Contains xs x → Contains (f x) y → Contains (flat_map f xs) y
in_each f [] x y h k = absurd (none_of_none x h)
in_each f (z ∷ xs) x y h k = elim (first_or_later z xs x h) [
  | inl same ↦ Contains-append_left (f z) (flat_map f xs) y (subst (λ (t : List ℕ). Contains (f t) y) (sym same) k)
  | inr there ↦ Contains-append_right (f z) (flat_map f xs) y (in_each f xs x y there k)
]

-- ---- exactly those

module _ (l m : List Settings) where
  abbrev all : List (List ℕ)
  all = all_paths l ++ all_paths m

  both_here : (directory path : List ℕ) → Contains (below_in l m directory) path → Contains all path × (is_below path directory ≡ true)
  both_here directory path h = elim (Contains-append_cases (keys_below (all_paths l) directory) (keys_below (all_paths m) directory) path h) [
    | inl before ↦ let w = below_here (all_paths l) directory path before in (Contains-append_left (all_paths l) (all_paths m) path w.0, w.1)
    | inr after ↦ let w = below_here (all_paths m) directory path after in (Contains-append_right (all_paths l) (all_paths m) path w.0, w.1)
  ]

  here_both : (directory path : List ℕ) → Contains all path → is_below path directory ≡ true → Contains (below_in l m directory) path
  here_both directory path h e = elim (Contains-append_cases (all_paths l) (all_paths m) path h) [
    | inl before ↦ Contains-append_left (keys_below (all_paths l) directory) (keys_below (all_paths m) directory) path (here_below (all_paths l) directory path before e)
    | inr after ↦ Contains-append_right (keys_below (all_paths l) directory) (keys_below (all_paths m) directory) path (here_below (all_paths m) directory path after e)
  ]

  named : (edits : List (List ℕ)) (edit path : List ℕ) → Contains edits edit → Contains (keys_of l m edit) path → IsOwn l m edits path
  named edits edit path there has = go (is_key_text edit) (is_directory_text edit) refl refl has
    where
      go : (b d : Bool) → is_key_text edit ≡ b → is_directory_text edit ≡ d → Contains (cond b (edit ∷ []) (cond d (below_in l m edit) [])) path → IsOwn l m edits path
      go true d e f k = elim (first_or_later edit [] path k) [
        | inl same ↦ inl (subst (Contains edits) same there, subst IsKeyText same ((key_told edit).0 e))
        | inr none ↦ absurd (none_of_none path none)
      ]
      go false true e f k = let w = both_here edit path k in inr (w.0, (edit, there, (directory_told edit).0 f, w.1))
      go false false e f k = absurd (none_of_none path k)

  key_is_of : (path : List ℕ) → IsKeyText path → Contains (keys_of l m path) path
  key_is_of path key =
      subst (λ b. Contains (cond b (path ∷ []) (cond (is_directory_text path) (below_in l m path) [])) path) (sym ((key_told path).1 key)) (has_first path [])

  directory_is_of : (directory path : List ℕ) → IsDirectoryText directory → Contains (below_in l m directory) path → Contains (keys_of l m directory) path
  directory_is_of directory path is k =
      subst (λ b. Contains (cond b (directory ∷ []) (cond (is_directory_text directory) (below_in l m directory) [])) path) (sym (no_key directory is))
      (subst (λ b. Contains (cond b (below_in l m directory) []) path) (sym ((directory_told directory).1 is)) k)

  is_named : (edits : List (List ℕ)) (path : List ℕ) → IsOwn l m edits path → Contains (own_of l m edits) path
  is_named edits path (inl key) = in_each (keys_of l m) edits path path key.0 (key_is_of path key.1)
  is_named edits path (inr w) = in_each (keys_of l m) edits w.1.0 path w.1.1 (directory_is_of w.1.0 path w.1.2 (here_both w.1.0 path w.0 w.1.3))

  own_exactly : (edits : List (List ℕ)) → AreOwn l m edits (listing (own_of l m edits))
  own_exactly edits = record {
    rising = (listing_is_once_each (own_of l m edits)).rising;
    exact = λ path. (
      λ h. let w = from_each (keys_of l m) edits path (listing_from (own_of l m edits) path h) in named edits w.0 path w.1 w.2,
      λ own. listing_has (own_of l m edits) path (is_named edits path own),
    );
  }

  -- what was gathered of all
  pub own_list : (edits : List (List ℕ)) (set : TextSet) (paths : List (List ℕ)) → set ≡ with_texts (own_of l m edits) empty → paths ≡ keys set → AreOwn l m edits paths
  own_list edits set paths all is =
      subst (AreOwn l m edits) (sym (is ∙ (ap (λ (s : TextSet). keys s) all ∙ keys_are_listed (own_of l m edits)))) (own_exactly edits)

  -- what one edit is of
  pub of_key : (edit : List ℕ) (s : TextSet) → IsKeyText edit → with_text s edit ≡ with_texts (keys_of l m edit) s
  of_key edit s key = ap (λ b. with_texts (cond b (edit ∷ []) (cond (is_directory_text edit) (below_in l m edit) [])) s) (sym ((key_told edit).1 key))

  pub of_directory : (edit : List ℕ) (s : TextSet) → IsDirectoryText edit → with_texts (below_in l m edit) s ≡ with_texts (keys_of l m edit) s
  of_directory edit s is =
      ap (λ b. with_texts (cond b (below_in l m edit) []) s) (sym ((directory_told edit).1 is))
      ∙ ap (λ b. with_texts (cond b (edit ∷ []) (cond (is_directory_text edit) (below_in l m edit) [])) s) (sym (no_key edit is))

  pub of_none : (edit : List ℕ) (s : TextSet) → (IsKeyText edit → ⊥) → (IsDirectoryText edit → ⊥) → s ≡ with_texts (keys_of l m edit) s
  of_none edit s no_key no_directory =
      let other : is_key_text edit ≡ false = by_bool (is_key_text edit) (is_key_text edit ≡ false) (λ yes. absurd (no_key ((key_told edit).0 yes))) (λ is. is) in
      let none : is_directory_text edit ≡ false =
      by_bool (is_directory_text edit) (is_directory_text edit ≡ false) (λ yes. absurd (no_directory ((directory_told edit).0 yes))) (λ is. is) in
      ap (λ b. with_texts (cond b (below_in l m edit) []) s) (sym none)
      ∙ ap (λ b. with_texts (cond b (edit ∷ []) (cond (is_directory_text edit) (below_in l m edit) [])) s) (sym other)

-- The entries of a map in order: each path has its bytes.
use Rattle.std.proofs.Common.{ℕ, ◌≡◌, ◌<◌, ◌+◌, drop, zero, suc, Bool, true, false, cond, List, [], ◌∷◌, length, get_or, Some, refl, sym, ◌∙◌, ap, subst, arith, map}
use Rattle.std.specs.Prelude.{IsTrue}
use Rattle.std.specs.Cmp.{eq_by_cmp_equiv}
use Rattle.std.specs.Cmp.Lexicographic.{slice_cmp}
use Rattle.std.specs.Ordering.{nat_cmp, is_lt, is_eq, eq_by_cmp}
use Rattle.std.specs.declared.cmp.Ordering.{Ordering}
use Rattle.std.specs.declared.cmp.Ordering.TheVariants.{Less, Equal, Greater}
use Rattle.std.specs.FinMap.{find, from_entries, get, get-from_entries}
use Rattle.std.specs.FinMap.Entries.{is_sorted, below_all}
use Rattle.std.proofs.lemmas.Bool.{and_parts, true≢false}
use Rattle.std.proofs.lemmas.Cmp.{nat_list_cmp_total}
use Rattle.std.proofs.lemmas.List.Elements.{All-from_get_or, All-head, All-rest}
use Rattle.dconf_model.specs.Paths.{is_key_path}
use Rattle.dconf_model.specs.Settings.{AtPaths}
use Rattle.gvdb_maps.specs.Maps.{AreKeyPaths, AreSorted, lent_entries, path_and_bytes, Entry}
use Rattle.std.proofs.lemmas.List.{drop_more}
use Rattle.std.specs.List.{All}
use Rattle.std.specs.Borrow.{Bor}

abbrev pub LentEntry : Type 0
LentEntry = Bor (List ℕ) × Bor (List ℕ)

-- the paths of entries
abbrev pub paths_of : List (List ℕ × List ℕ) → List (List ℕ)
paths_of es = map (λ e. e.0) es

-- each path has these bytes
abbrev pub AreHeld : AtPaths (List ℕ) → List (List ℕ × List ℕ) → Type 0
AreHeld values es = All (λ e. get values e.0 ≡ Some e.1) es

no_entry : List ℕ × List ℕ
no_entry = ([], [])

-- ---- what is found in a sorted list

below_at : (path : List ℕ) (es : List (List ℕ × List ℕ)) (k : ℕ) → below_all (slice_cmp nat_cmp) path es ≡ true → k < length es → is_lt (slice_cmp nat_cmp path (get_or es k no_entry).0) ≡ true
below_at path [] k below l = absurd (omega (arith, l))
below_at path (e ∷ es) zero below l = (and_parts _ _ below).0
below_at path (e ∷ es) (suc k) below l = below_at path es k (and_parts _ _ below).1 (omega (arith, l))

pub less_is_other : (o : Ordering) → is_lt o ≡ true → is_eq o ≡ false
less_is_other Less e = refl
less_is_other Equal e = absurd (true≢false (sym e))
less_is_other Greater e = absurd (true≢false (sym e))

found_at : (es : List (List ℕ × List ℕ)) (k : ℕ) → is_sorted (slice_cmp nat_cmp) es ≡ true → k < length es → find (slice_cmp nat_cmp) (get_or es k no_entry).0 es ≡ Some (get_or es k no_entry).1
found_at [] k sorted l = absurd (omega (arith, l))
found_at (e ∷ es) zero sorted l = ap (λ (b : Bool). cond b (Some e.1) (find (slice_cmp nat_cmp) e.0 es)) ((eq_by_cmp_equiv nat_list_cmp_total).refl e.0)
found_at (e ∷ es) (suc k) sorted l =
    let parts = and_parts (below_all (slice_cmp nat_cmp) e.0 es) (is_sorted (slice_cmp nat_cmp) es) sorted in
    let path = (get_or es k no_entry).0 in
    let other : eq_by_cmp (slice_cmp nat_cmp) path e.0 ≡ false =
    (eq_by_cmp_equiv nat_list_cmp_total).symm path e.0 ∙ less_is_other (slice_cmp nat_cmp e.0 path) (below_at e.0 es k parts.0 (omega (arith, l))) in
    ap (λ (b : Bool). cond b (Some e.1) (find (slice_cmp nat_cmp) path es)) other ∙ found_at es k parts.1 (omega (arith, l))

pub sorted_held : (es : List (List ℕ × List ℕ)) → AreSorted es → AreHeld (from_entries es) es
sorted_held es sorted =
    All-from_get_or (λ e. get {R = slice_cmp nat_cmp} (from_entries es) e.0 ≡ Some e.1) es no_entry (λ k here. get-from_entries nat_list_cmp_total es (get_or es k no_entry).0 ∙ found_at es k sorted here)

-- ---- the first of those that are left

module _ (items : List LentEntry) (i : ℕ) (d : LentEntry) (inside : i < length items) (text : List ℕ) (is : text ≡ (get_or items i d).0.now) where
  abbrev left : List Entry
  left = lent_entries (drop i items)

  abbrev rest : List Entry
  rest = lent_entries (drop (i + 1) items)

  first : left ≡ path_and_bytes (get_or items i d) ∷ rest
  first = ap lent_entries (drop_more items i d inside)

  pub first_path : paths_of left ≡ text ∷ paths_of rest
  first_path = ap paths_of first ∙ ap (λ (p : List ℕ). p ∷ paths_of rest) (sym is)

  pub first_is_path : AreKeyPaths (paths_of left) → IsTrue (is_key_path text)
  first_is_path paths = All-head (λ p. IsTrue (is_key_path p)) text (paths_of rest) (subst AreKeyPaths first_path paths)

  pub rest_are_paths : AreKeyPaths (paths_of left) → AreKeyPaths (paths_of rest)
  rest_are_paths paths = All-rest (λ p. IsTrue (is_key_path p)) text (paths_of rest) (paths_of left) first_path paths

  pub first_value : (values : AtPaths (List ℕ)) → AreHeld values left → get values text ≡ Some (get_or items i d).1.now
  first_value values held =
      ap (λ (p : List ℕ). get values p) is ∙ All-head (λ e. get values e.0 ≡ Some e.1) (path_and_bytes (get_or items i d)) rest (subst (λ (es : List Entry). AreHeld values es) first held)

  pub rest_held : (values : AtPaths (List ℕ)) → AreHeld values left → AreHeld values rest
  rest_held values held = All-rest (λ e. get values e.0 ≡ Some e.1) (path_and_bytes (get_or items i d)) rest left first held

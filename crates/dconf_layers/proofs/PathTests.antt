-- Whether a path is among others: among those that pass a test, that are gathered, or below a directory.
use Rattle.std.specs.Prelude.{Contains, filter}
use Rattle.std.proofs.Common.{◌≡◌, ◌<◌, ◌≤◌, ℕ, zero, suc, Bool, true, List, ◌++◌, ◌&&◌, sym, ap, ◌∙◌, subst, arith, inl, inr}
use Rattle.std.specs.List.{list_any}
use Rattle.std.specs.Str.{bytes_eq}
use Rattle.std.proofs.Math.Logic.{⊎_elim}
use Rattle.std.proofs.lemmas.Bool.{cases_lt, or_cases, or_left, or_right}
use Rattle.std.proofs.lemmas.List.Folds.{list_any-append}
use Rattle.std.proofs.lemmas.Map.Views.{any-filter_same}
use Rattle.dconf_model.specs.Databases.{gathered}
use Rattle.dconf_model.specs.Layers.{parts_below}
use Rattle.dconf_model.specs.Locks.{is_below}
use Rattle.dconf_model.proofs.Listings.{path_of_part, part_of_path, below_itself}
use Rattle.dconf_model.proofs.PathMaps.{same_bool, no_truth}
use Rattle.dconf_model.proofs.SameBytes.{same_path}
use Rattle.dconf_model.proofs.ListingOrder.{find_text, found_text}

-- ---- those that pass a test

pub any_passing : (t : List ℕ) (f : List ℕ → Bool) (ts : List (List ℕ)) → list_any (bytes_eq t) (filter f ts) ≡ (f t && list_any (bytes_eq t) ts)
any_passing t f ts = any-filter_same (bytes_eq t) f (f t) (λ u same. ap f (sym (same_path t u same))) ts

-- ---- those that are gathered

pub any_of_gathered : (t : List ℕ) (f : ℕ → List (List ℕ)) (n : ℕ) → list_any (bytes_eq t) (gathered f n) ≡ true → (i : ℕ) × (i < n) × (list_any (bytes_eq t) (f i) ≡ true)
any_of_gathered t f zero e = absurd (no_truth e)
any_of_gathered t f (suc n) e =
    elim (or_cases (list_any (bytes_eq t) (gathered f n)) (list_any (bytes_eq t) (f n)) (sym (list_any-append (bytes_eq t) (gathered f n) (f n)) ∙ e)) [
      | inl earlier ↦ (let h = any_of_gathered t f n earlier in (h.0, omega (arith, h.1), h.2))
      | inr last ↦ (n, omega arith, last)
    ]

pub any_gathered : (t : List ℕ) (f : ℕ → List (List ℕ)) (i n : ℕ) → i < n → list_any (bytes_eq t) (f i) ≡ true → list_any (bytes_eq t) (gathered f n) ≡ true
any_gathered t f i zero within e = absurd (omega (arith, within))
any_gathered t f i (suc n) within e =
    let before = list_any (bytes_eq t) (gathered f n) in
    let last = list_any (bytes_eq t) (f n) in
    list_any-append (bytes_eq t) (gathered f n) (f n) ∙ ⊎_elim
    (λ (l : i < n). or_left before last (any_gathered t f i n l e))
    (λ (m : n ≤ i). let same : i ≡ n = omega (arith, within, m) in or_right before last (subst (λ (k : ℕ). list_any (bytes_eq t) (f k) ≡ true) same e))
    (cases_lt i n)

-- ---- below a directory

part_there : (d : List ℕ) (ps qs : List (List ℕ)) → ((p : List ℕ) → is_below p d ≡ true → list_any (bytes_eq p) ps ≡ true → list_any (bytes_eq p) qs ≡ true) →
    (t : List ℕ) → list_any (bytes_eq t) (parts_below d ps) ≡ true → list_any (bytes_eq t) (parts_below d qs) ≡ true
part_there d ps qs each t e =
    let h = path_of_part d ps t (found_text t (parts_below d ps) e) in
    let there = each (d ++ h.0) (below_itself d h.0) (find_text (d ++ h.0) ps h.1) in
    find_text t (parts_below d qs) (subst (Contains (parts_below d qs)) (sym h.2) (part_of_path d h.0 qs (found_text (d ++ h.0) qs there)))

-- lists of the same paths below a directory have the same parts there
pub parts_alike : (d : List ℕ) (ps qs : List (List ℕ)) → ((p : List ℕ) → is_below p d ≡ true → list_any (bytes_eq p) ps ≡ list_any (bytes_eq p) qs) →
    (t : List ℕ) → list_any (bytes_eq t) (parts_below d ps) ≡ list_any (bytes_eq t) (parts_below d qs)
parts_alike d ps qs same t =
    same_bool (list_any (bytes_eq t) (parts_below d ps)) (list_any (bytes_eq t) (parts_below d qs))
    (part_there d ps qs (λ p below e. sym (same p below) ∙ e) t)
    (part_there d qs ps (λ p below e. same p below ∙ e) t)

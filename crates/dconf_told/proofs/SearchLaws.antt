-- What a search by halving finds among texts that rise.
use Rattle.std.specs.Prelude.{Err, Ok, Result, is_ok, map, slice_index_or, string_bytes}
use Rattle.std.proofs.Common.{◌≡◌, ◌∙◌, ◌+◌, ◌<◌, ℕ, zero, suc, true, false, List, [], ◌∷◌, length, ap, sym, subst, inl, inr, arith}
use Rattle.std.specs.Cmp.Lexicographic.{slice_cmp, nat_list_cmp_total}
use Rattle.std.specs.List.{HoldsAt, list_any}
use Rattle.std.specs.List.Sorted.{IsBinarySearchResult, IsPartitionPoint, IsSearchInRange}
use Rattle.std.specs.Ordering.{is_eq, is_lt, nat_cmp}
use Rattle.std.specs.Str.{bytes_eq}
use Rattle.std.specs.declared.alloc.Global.{Global}
use Rattle.std.specs.declared.cmp.Ordering.{Ordering}
use Rattle.std.specs.declared.cmp.Ordering.TheVariants.{Less, Equal, Greater}
use Rattle.std.specs.declared.string.String.{String}
use Rattle.std.proofs.lemmas.Bool.{cases_lt, or_cases, or_left, or_right}
use Rattle.std.proofs.lemmas.Cmp.{tied_itself}
use Rattle.std.proofs.lemmas.List.Sorted.{searchable_from_sorted}
use Rattle.std.proofs.lemmas.Map.Text.{is_eq-slice_cmp}
use Rattle.dconf_model.specs.Order.{IsRising}
use Rattle.dconf_model.proofs.ParentLaws.{by_bool}
use Rattle.dconf_model.proofs.PathMaps.{no_truth}
use Rattle.dconf_model.proofs.RisingTexts.{less_of, never_less, one_less}
use Rattle.dconf_model.proofs.SameBytes.{path_itself, same_path}

abbrev ord : List ℕ → String Global → Ordering
ord p text = slice_cmp nat_cmp (string_bytes text) p

abbrev Has : List (String Global) → List ℕ → Type 0
Has texts p = list_any (bytes_eq p) (map string_bytes texts) ≡ true

same_text : (t u : List ℕ) → slice_cmp nat_cmp t u ≡ Equal → t ≡ u
same_text t u e = same_path t u (sym (is_eq-slice_cmp t u) ∙ ap is_eq e)

-- ---- what is found

found : (p : List ℕ) (texts : List (String Global)) (i : ℕ) → i < length texts → HoldsAt (λ text. ord p text ≡ Equal) texts i → Has texts p
found p [] i less at = absurd (omega (arith, less))
found p (t ∷ more) zero less at =
    or_left (bytes_eq p (string_bytes t)) (list_any (bytes_eq p) (map string_bytes more)) (path_itself p (string_bytes t) (sym (same_text (string_bytes t) p (at t))))
found p (t ∷ more) (suc i) less at =
    or_right (bytes_eq p (string_bytes t)) (list_any (bytes_eq p) (map string_bytes more)) (found p more i (omega (arith, less)) (λ d. at d))

-- ---- what is not

abbrev IsPlaceOf : List ℕ → List (String Global) → Type 0
IsPlaceOf p texts = (k : ℕ) × (k < length texts) × ((d : String Global) → string_bytes (slice_index_or texts k d) ≡ p) × String Global

place_of : (p : List ℕ) (texts : List (String Global)) → Has texts p → IsPlaceOf p texts
place_of p [] has = absurd (no_truth has)
place_of p (t ∷ more) has = elim (or_cases (bytes_eq p (string_bytes t)) (list_any (bytes_eq p) (map string_bytes more)) has) [
  | inl here ↦ (0, omega arith, λ d. sym (same_path p (string_bytes t) here), t)
  | inr there ↦ let w = place_of p more there in (suc w.0, (let less = w.1 in omega (arith, less)), w.2, w.3)
]

not_less : (p : List ℕ) → slice_cmp nat_cmp p p ≡ Greater → ⊥
not_less p e = let same = tied_itself nat_list_cmp_total p in let both : Greater ≡ Equal = sym e ∙ same in cc

nowhere : (p : List ℕ) (texts : List (String Global)) (i : ℕ) → IsPartitionPoint (λ text. ord p text ≡ Less) (λ text. ord p text ≡ Greater) texts i → Has texts p → ⊥
nowhere p texts i parted has =
    let w = place_of p texts has in
    elim (cases_lt w.0 i) [
      | inl before ↦ never_less p (subst (λ (t : List ℕ). slice_cmp nat_cmp t p ≡ Less) (w.2 w.3) (parted.0 w.0 w.3 (omega arith) before))
      | inr behind ↦ not_less p (subst (λ (t : List ℕ). slice_cmp nat_cmp t p ≡ Greater) (w.2 w.3) (parted.1 w.0 w.3 behind w.1))
    ]

-- ---- texts that rise can be searched

not_back : (t u : List ℕ) → is_lt (slice_cmp nat_cmp t u) ≡ true → is_lt (slice_cmp nat_cmp u t) ≡ false
not_back t u e = by_bool (is_lt (slice_cmp nat_cmp u t)) (is_lt (slice_cmp nat_cmp u t) ≡ false)
    (λ yes. absurd (one_less t u (less_of (slice_cmp nat_cmp t u) e) (less_of (slice_cmp nat_cmp u t) yes)))
    (λ other. other)

sorted : (texts : List (String Global)) → IsRising (map string_bytes texts) → (k : ℕ) (d : String Global) → k + 1 < length texts →
    is_lt (slice_cmp nat_cmp (string_bytes (slice_index_or texts (k + 1) d)) (string_bytes (slice_index_or texts k d))) ≡ false
sorted [] h k d less = absurd (omega (arith, less))
sorted (t ∷ []) h k d less = absurd (omega (arith, less))
sorted (t ∷ u ∷ more) h zero d less = not_back (string_bytes t) (string_bytes u) h.0
sorted (t ∷ u ∷ more) h (suc k) d less =
    let next : suc (k + 1) ≡ suc k + 1 = omega arith in
    subst (λ (n : ℕ). is_lt (slice_cmp nat_cmp (string_bytes (slice_index_or (t ∷ u ∷ more) n d)) (string_bytes (slice_index_or (u ∷ more) k d))) ≡ false) next
    (sorted (u ∷ more) h.1 k d (omega (arith, less)))

pub search_tells : (p : List ℕ) (texts : List (String Global)) (r : Result ℕ ℕ) → IsRising (map string_bytes texts) → IsSearchInRange r (length texts) →
    IsBinarySearchResult (ord p) texts r → is_ok r ≡ list_any (bytes_eq p) (map string_bytes texts)
search_tells p texts (Ok i) rises less at = sym (found p texts i less at)
search_tells p texts (Err i) rises less at =
    let parted = at (searchable_from_sorted nat_list_cmp_total string_bytes texts p (λ k d low high. sorted texts rises k d high)) in
    by_bool (list_any (bytes_eq p) (map string_bytes texts)) (false ≡ list_any (bytes_eq p) (map string_bytes texts))
    (λ yes. absurd (nowhere p texts i parted yes))
    (λ other. sym other)

-- where all that is searched is a lock, or the like
pub found_text : (p : List ℕ) (texts : List (String Global)) (r : Result ℕ ℕ) → IsSearchInRange r (length texts) → IsBinarySearchResult (ord p) texts r →
    is_ok r ≡ true → Has texts p
found_text p texts (Ok i) less at is = found p texts i less at
found_text p texts (Err i) less at is = absurd (no_truth is)

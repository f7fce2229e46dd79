-- The paths at which something is kept are in the order of their bytes.
use Rattle.std.proofs.Common.{◌≡◌, ◌<◌, ◌+◌, ℕ, zero, suc, Bool, true, false, T, List, [], ◌∷◌, ◌++◌, length, get_or, map, refl, sym, ap, ◌∙◌, arith, length-append}
use Rattle.std.specs.Prelude.{IsTrue, Contains}
use Rattle.std.specs.Cmp.Lexicographic.{slice_cmp}
use Rattle.std.specs.Cmp.{eq_by_cmp_equiv}
use Rattle.std.specs.Ordering.{nat_cmp, is_lt}
use Rattle.std.specs.FinMap.{keys, entries, entries_sorted, contains_key, contains_key-keys, slice_cmp-IsAntisymmetric, nat_cmp-IsAntisymmetric}
use Rattle.std.specs.FinMap.Entries.{is_sorted, below_all}
use Rattle.std.proofs.lemmas.Bool.{and_parts}
use Rattle.std.proofs.lemmas.Cmp.{nat_list_cmp_total}
use Rattle.std.proofs.lemmas.List.{get_or_at, get_or_default}
use Rattle.std.proofs.lemmas.Map.Views.{tells_apart, Contains-from_any, list_any-from_Contains}
use Rattle.dconf_model.proofs.RisingTexts.{less_of}
use Rattle.dconf_model.specs.Settings.{AtPaths}
use Rattle.gvdb_maps.specs.PlanWords.{IsBefore}

-- each path of these precedes the next ones
pub record Rise (paths : List (List ℕ)) : Type 0 where
  pub rising : (i j : ℕ) → i < j → j < length paths → IsBefore (get_or paths i []) (get_or paths j [])

pub from_true : (b : Bool) → T b → b ≡ true
from_true true h = refl
from_true false h = elim h [ ]

below : {X : Type 0} (path : List ℕ) (es : List (List ℕ × X)) → below_all (slice_cmp nat_cmp) path es ≡ true → (j : ℕ) → j < length (map (λ e. e.0) es) → IsBefore path (get_or (map (λ e. e.0) es) j [])
below path [] h j here = absurd (omega (arith, here))
below path (e ∷ es) h zero here = less_of _ (and_parts (is_lt (slice_cmp nat_cmp path e.0)) (below_all (slice_cmp nat_cmp) path es) h).0
below path (e ∷ es) h (suc j) here = below path es (and_parts (is_lt (slice_cmp nat_cmp path e.0)) (below_all (slice_cmp nat_cmp) path es) h).1 j (omega (arith, here))

rise : {X : Type 0} (es : List (List ℕ × X)) → is_sorted (slice_cmp nat_cmp) es ≡ true → (i j : ℕ) → i < j → j < length (map (λ e. e.0) es) → IsBefore (get_or (map (λ e. e.0) es) i []) (get_or (map (λ e. e.0) es) j [])
rise [] h i j less here = absurd (omega (arith, here))
rise (e ∷ es) h i zero less here = absurd (omega (arith, less))
rise (e ∷ es) h zero (suc j) less here = below e.0 es (and_parts (below_all (slice_cmp nat_cmp) e.0 es) (is_sorted (slice_cmp nat_cmp) es) h).0 j (omega (arith, here))
rise (e ∷ es) h (suc i) (suc j) less here = rise es (and_parts (below_all (slice_cmp nat_cmp) e.0 es) (is_sorted (slice_cmp nat_cmp) es) h).1 i j (omega (arith, less)) (omega (arith, here))

pub keys_rise : {X : Type 0} (m : AtPaths X) → Rise (keys m)
keys_rise m = record { rising = rise (entries m) (from_true (is_sorted (slice_cmp nat_cmp) (entries m)) (entries_sorted m)) }

-- of those that are left, the first precedes the others
pub rise_rest : (path : List ℕ) (rest : List (List ℕ)) → Rise (path ∷ rest) → Rise rest
rise_rest path rest r = record { rising = λ i j less here. r.rising (suc i) (suc j) (omega (arith, less)) (omega (arith, here)) }

pub first_before : (path : List ℕ) (rest : List (List ℕ)) → Rise (path ∷ rest) → (k : ℕ) → k < length rest → IsBefore path (get_or rest k [])
first_before path rest r k here = r.rising zero (suc k) (omega arith) (omega (arith, here))

-- what is listed is kept
pub listed_is_kept : {X : Type 0} (m : AtPaths X) (prefix rest : List (List ℕ)) (path : List ℕ) → keys m ≡ prefix ++ path ∷ rest → IsTrue (contains_key m path)
listed_is_kept m prefix rest path is =
    let there : Contains (keys m) path = (
      length prefix,
      (let n : length (keys m) ≡ length prefix + suc (length rest) = ap (λ (l : List (List ℕ)). length l) is ∙ length-append prefix (path ∷ rest) in omega (arith, n)),
      ap (λ (l : List (List ℕ)). get_or l (length prefix) path) is ∙ get_or_at prefix path rest path (length prefix) refl,
    ) in
    contains_key-keys m path ∙ list_any-from_Contains (eq_by_cmp_equiv nat_list_cmp_total) path (keys m) there

-- and what is at a place of the list
pub kept_is_listed : {X : Type 0} (m : AtPaths X) (k : ℕ) → k < length (keys m) → IsTrue (contains_key m (get_or (keys m) k []))
kept_is_listed m k here =
    contains_key-keys m (get_or (keys m) k []) ∙ list_any-from_Contains (eq_by_cmp_equiv nat_list_cmp_total) (get_or (keys m) k []) (keys m)
    (k, here, get_or_default (keys m) k (get_or (keys m) k []) [] here)

pub kept_at : {X : Type 0} (m : AtPaths X) (path : List ℕ) → IsTrue (contains_key m path) → (k : ℕ) × (k < length (keys m)) × (get_or (keys m) k [] ≡ path)
kept_at m path kept =
    let found = Contains-from_any (tells_apart (slice_cmp-IsAntisymmetric nat_cmp-IsAntisymmetric)) path (keys m) (sym (contains_key-keys m path) ∙ kept) in
    (found.0, found.1, get_or_default (keys m) found.0 [] path found.1 ∙ found.2)

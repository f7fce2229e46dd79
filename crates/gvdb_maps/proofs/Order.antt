-- The paths of the settings that a map stands for are its keys, in order.
use Rattle.std.proofs.Common.{ℕ, ◌≡◌, T, true, List, [], ◌∷◌, map, length, refl, sym, ◌∙◌, ap, subst, Vec, ◌&&◌}
use Rattle.std.specs.BTreeMap.{BTreeMap, IsOrdered, btree_map_len, keys}
use Rattle.std.specs.BTreeSet.{BTreeSet, btree_set_len, IsOrdered as IsOrderedSet}
use Rattle.std.specs.List.Sorted.{IsStrictlySortedBy}
use Rattle.std.specs.declared.string.String.{String}
use Rattle.std.specs.declared.alloc.Global.{Global}
use Rattle.std.specs.declared.cmp.Ordering.TheVariants.{Less}
use Rattle.std.specs.String.{string_bytes, string_cmp}
use Rattle.std.specs.Cmp.Lexicographic.{slice_cmp}
use Rattle.std.specs.Ordering.{nat_cmp, is_lt}
use Rattle.std.specs.List.{AllByRecursion}
use Rattle.std.specs.FinMap as fin
use Rattle.std.specs.FinMap.Entries.{is_sorted, below_all}
use Rattle.std.proofs.lemmas.Cmp.{nat_list_cmp_total}
use Rattle.std.proofs.lemmas.List.{length-map}
use Rattle.gvdb_maps.specs.Maps.{values_of, locks_of, value_entries, lock_entries}

-- a list in order is its map's entries
pub entries_of_sorted : {X : Type 0} (es : List (List ℕ × X)) → is_sorted (slice_cmp nat_cmp) es ≡ true → fin.entries (fin.from_entries {R = slice_cmp nat_cmp} es) ≡ es
entries_of_sorted es sorted =
    let holds = subst (λ b. T b) (sym sorted) tt in
    let same = fin.same_map nat_list_cmp_total (fin.slice_cmp-IsAntisymmetric fin.nat_cmp-IsAntisymmetric) (fin.from_entries es) (fin.from_sorted es) (λ q. fin.get-from_entries nat_list_cmp_total es q ∙ sym (fin.get-from_sorted (slice_cmp nat_cmp) es q holds)) in
    ap fin.entries same ∙ fin.entries-from_sorted (slice_cmp nat_cmp) es holds

below_values : (k : String Global) (es : List (String Global × Vec ℕ Global)) → AllByRecursion (λ y. string_cmp k y ≡ Less) (map (λ e. e.0) es) → below_all (slice_cmp nat_cmp) (string_bytes k) (value_entries es) ≡ true
below_values k [] h = refl
below_values k (e ∷ es) h = ap (λ r. is_lt r && below_all (slice_cmp nat_cmp) (string_bytes k) (value_entries es)) h.0 ∙ below_values k es h.1

pub sorted_values : (es : List (String Global × Vec ℕ Global)) → IsStrictlySortedBy string_cmp (map (λ e. e.0) es) → is_sorted (slice_cmp nat_cmp) (value_entries es) ≡ true
unfolding IsStrictlySortedBy
sorted_values [] h = refl
sorted_values (e ∷ es) h = ap (λ b. b && is_sorted (slice_cmp nat_cmp) (value_entries es)) (below_values e.0 es h.0) ∙ sorted_values es h.1

pub paths_of_values : (es : List (String Global × Vec ℕ Global)) → map (λ p. p.0) (value_entries es) ≡ map string_bytes (map (λ e. e.0) es)
paths_of_values [] = refl
paths_of_values (e ∷ es) = ap (λ ps. string_bytes e.0 ∷ ps) (paths_of_values es)

pub keys_values : (m : BTreeMap (String Global) (Vec ℕ Global)) → IsOrdered string_cmp m → fin.keys (values_of m) ≡ map string_bytes (keys m)
keys_values m o =
    ap (λ (es : List (List ℕ × List ℕ)). map (λ p. p.0) es) (entries_of_sorted (value_entries m.entries) (sorted_values m.entries o)) ∙ paths_of_values m.entries

below_locks : (k : String Global) (ks : List (String Global)) → AllByRecursion (λ y. string_cmp k y ≡ Less) ks → below_all (slice_cmp nat_cmp) (string_bytes k) (lock_entries ks) ≡ true
below_locks k [] h = refl
below_locks k (y ∷ ks) h = ap (λ r. is_lt r && below_all (slice_cmp nat_cmp) (string_bytes k) (lock_entries ks)) h.0 ∙ below_locks k ks h.1

sorted_locks : (ks : List (String Global)) → IsStrictlySortedBy string_cmp ks → is_sorted (slice_cmp nat_cmp) (lock_entries ks) ≡ true
unfolding IsStrictlySortedBy
sorted_locks [] h = refl
sorted_locks (k ∷ ks) h = ap (λ b. b && is_sorted (slice_cmp nat_cmp) (lock_entries ks)) (below_locks k ks h.0) ∙ sorted_locks ks h.1

paths_of_locks : (ks : List (String Global)) → map (λ p. p.0) (lock_entries ks) ≡ map string_bytes ks
paths_of_locks [] = refl
paths_of_locks (k ∷ ks) = ap (λ ps. string_bytes k ∷ ps) (paths_of_locks ks)

pub keys_locks : (s : BTreeSet (String Global)) → IsOrderedSet string_cmp s → fin.keys (locks_of s) ≡ map string_bytes s.keys
keys_locks s o =
    ap (λ (es : List (List ℕ × Unit {0})). map (λ p. p.0) es) (entries_of_sorted (lock_entries s.keys) (sorted_locks s.keys o)) ∙ paths_of_locks s.keys

pub len_values : (m : BTreeMap (String Global) (Vec ℕ Global)) → IsOrdered string_cmp m → fin.len (values_of m) ≡ btree_map_len m
len_values m o = fin.len-entries (values_of m) ∙ ap length (entries_of_sorted (value_entries m.entries) (sorted_values m.entries o)) ∙ length-map m.entries _

pub len_locks : (s : BTreeSet (String Global)) → IsOrderedSet string_cmp s → fin.len (locks_of s) ≡ btree_set_len s
len_locks s o = fin.len-entries (locks_of s) ∙ ap length (entries_of_sorted (lock_entries s.keys) (sorted_locks s.keys o)) ∙ length-map s.keys _

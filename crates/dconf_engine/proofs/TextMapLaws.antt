-- What a map of texts keeps at their bytes: look-ups, changes, the order of its entries, and that each is at the path of a key.
use Rattle.std.proofs.Common.{ℕ, ◌≡◌, T, Bool, true, false, cond, List, [], ◌∷◌, length, slice_index_or, ◌<◌, Bor, Option, Some, None, option_map, is_some, IsTrue, refl, sym, ◌∙◌, ap, subst, ◌&&◌}
use Rattle.std.specs.BTreeMap.{BTreeMap, is_at, get_by_text, UpdatesBy, IsOrdered}
use Rattle.std.specs.Map.{lookup, keys_of}
use Rattle.std.specs.Str.{bytes_eq}
use Rattle.std.specs.List.{AllByRecursion, AllZip}
use Rattle.std.specs.List.Sorted.{IsStrictlySortedBy}
use Rattle.std.specs.declared.string.String.{String}
use Rattle.std.specs.declared.alloc.Global.{Global}
use Rattle.std.specs.declared.cmp.Ordering.TheVariants.{Less}
use Rattle.std.specs.String.{string_bytes, string_cmp}
use Rattle.std.specs.Cmp.Lexicographic.{slice_cmp}
use Rattle.std.specs.Cmp.{eq_by_cmp_equiv}
use Rattle.std.specs.Ordering.{nat_cmp, eq_by_cmp, is_lt}
use Rattle.std.specs.FinMap as fin
use Rattle.std.specs.FinMap.{get, insert, find, entries}
use Rattle.std.specs.FinMap.Entries.{is_sorted, below_all}
use Rattle.std.proofs.lemmas.Cmp.{nat_list_cmp_total}
use Rattle.std.proofs.lemmas.Map.Text.{btree_map_updates_text}
use Rattle.std.proofs.lemmas.Bool.{true≢false}
use Rattle.std.proofs.lemmas.List.{get_or-map, length-map}
use Rattle.std.proofs.lemmas.List.Elements.{All-contains_itself, All-nil, All-rest, All-head}
use Rattle.std.proofs.lemmas.Map.Views.{list_any-from_Contains}
use Rattle.std.specs.Map.Iter.{TakesFirst, deref_pair}
use Rattle.dconf_model.specs.Paths.{is_key_path}
use Rattle.dconf_model.specs.Settings.{AtPaths}
use Rattle.dconf_model.proofs.DatabaseLaws.{at_paths}
use Rattle.dconf_model.proofs.ParentLaws.{by_bool}
use Rattle.dconf_model.proofs.PathMaps.{get_inserted}
use Rattle.dconf_model.proofs.SameBytes.{same_path}
use Rattle.dconf_engine.specs.TextMaps.{entries_by, at_texts, IsAtKeys, AreAtKeyPaths}

-- ---- look-ups

read_if : {V X : Type 0} (read : V → X) (b : Bool) (v : V) (o : Option V) → cond b (Some (read v)) (option_map read o) ≡ option_map read (cond b (Some v) o)
read_if read true v o = refl
read_if read false v o = refl

find_by : {V X : Type 0} (read : V → X) (es : List (String Global × V)) (q : List ℕ) →
    find (slice_cmp nat_cmp) q (entries_by read es) ≡ option_map read (lookup (is_at (λ k. slice_cmp nat_cmp q (string_bytes k))) es)
find_by read [] q = refl
find_by read (e ∷ es) q =
    ap (cond (eq_by_cmp (slice_cmp nat_cmp) q (string_bytes e.0)) (Some (read e.1))) (find_by read es q) ∙ read_if read _ e.1 _

pub get_at_texts : {V X : Type 0} (read : V → X) (m : BTreeMap (String Global) V) (q : List ℕ) → get (at_texts read m) q ≡ option_map read (get_by_text m q)
get_at_texts read m q = fin.get-from_entries nat_list_cmp_total (entries_by read m.entries) q ∙ find_by read m.entries q

-- a map that takes something at a path
pub taken_at : {V X : Type 0} (read : V → X) (m n : BTreeMap (String Global) V) (key : String Global) (v : V) (path : List ℕ) →
    UpdatesBy string_cmp (string_cmp key) m n (Some v) → string_bytes key ≡ path → at_texts read n ≡ insert (at_texts read m) path (read v)
taken_at read m n key v path updates named =
    at_paths (at_texts read n) (insert (at_texts read m) (string_bytes key) (read v)) (λ q.
    get_at_texts read n q
    ∙ ap (option_map read) (btree_map_updates_text (string_bytes key) m n (Some v) updates q)
    ∙ sym (read_if read (bytes_eq (string_bytes key) q) v (get_by_text m q))
    ∙ ap (cond (bytes_eq (string_bytes key) q) (Some (read v))) (sym (get_at_texts read m q))
    ∙ sym (get_inserted (at_texts read m) (string_bytes key) (read v) q))
    ∙ ap (λ (p : List ℕ). insert (at_texts read m) p (read v)) named

-- ---- the order

-- a list in order is its map's entries
entries_of_sorted : {X : Type 0} (es : List (List ℕ × X)) → is_sorted (slice_cmp nat_cmp) es ≡ true → entries (fin.from_entries {R = slice_cmp nat_cmp} es) ≡ es
entries_of_sorted es sorted =
    let holds = subst (λ b. T b) (sym sorted) tt in
    let same = at_paths (fin.from_entries es) (fin.from_sorted es) (λ q.
    fin.get-from_entries nat_list_cmp_total es q ∙ sym (fin.get-from_sorted (slice_cmp nat_cmp) es q holds)) in
    ap entries same ∙ fin.entries-from_sorted (slice_cmp nat_cmp) es holds

below_by : {V X : Type 0} (read : V → X) (k : String Global) (es : List (String Global × V)) → AllByRecursion (λ y. string_cmp k y ≡ Less) (keys_of es) →
    below_all (slice_cmp nat_cmp) (string_bytes k) (entries_by read es) ≡ true
below_by read k [] h = refl
below_by read k (e ∷ es) h = ap (λ r. is_lt r && below_all (slice_cmp nat_cmp) (string_bytes k) (entries_by read es)) h.0 ∙ below_by read k es h.1

sorted_by : {V X : Type 0} (read : V → X) (es : List (String Global × V)) → IsStrictlySortedBy string_cmp (keys_of es) → is_sorted (slice_cmp nat_cmp) (entries_by read es) ≡ true
unfolding IsStrictlySortedBy
sorted_by read [] h = refl
sorted_by read (e ∷ es) h = ap (λ b. b && is_sorted (slice_cmp nat_cmp) (entries_by read es)) (below_by read e.0 es h.0) ∙ sorted_by read es h.1

pub entries_at_texts : {V X : Type 0} (read : V → X) (m : BTreeMap (String Global) V) → IsOrdered string_cmp m → entries (at_texts read m) ≡ entries_by read m.entries
entries_at_texts read m ordered = entries_of_sorted (entries_by read m.entries) (sorted_by read m.entries ordered)

-- the same texts, with values that read the same
pub same_clones : {V X : Type 0} (read : V → X) (es fs : List (String Global × V)) →
    AllZip (λ (p : String Global × V) (q : String Global × V). (string_bytes q.0 ≡ string_bytes p.0) × (read q.1 ≡ read p.1)) es fs → entries_by read fs ≡ entries_by read es
same_clones read [] [] h = refl
same_clones read [] (f ∷ fs) h = absurd h
same_clones read (e ∷ es) [] h = absurd h
same_clones {V} {X} read (e ∷ es) (f ∷ fs) h =
    ap (λ (k : List ℕ). (k, read f.1) ∷ entries_by read fs) h.0.0 ∙ ap (λ (x : X). (string_bytes e.0, x) ∷ entries_by read fs) h.0.1
    ∙ ap (λ (l : List (List ℕ × X)). (string_bytes e.0, read e.1) ∷ l) (same_clones read es fs h.1)

-- ---- paths of keys

pub nothing_at_keys : (X : Type 0) → IsAtKeys (fin.empty {X = X} {R = slice_cmp nat_cmp})
nothing_at_keys X q h = absurd (true≢false (sym h ∙ ap is_some (fin.get-empty (slice_cmp nat_cmp) q)))

pub taken_at_key : {X : Type 0} (m : AtPaths X) (path : List ℕ) (x : X) → IsAtKeys m → IsTrue (is_key_path path) → IsAtKeys (insert m path x)
taken_at_key m path x kept is q h =
    by_bool (bytes_eq path q) (IsTrue (is_key_path q))
    (λ same. subst (λ (p : List ℕ). IsTrue (is_key_path p)) (same_path path q same) is)
    (λ other. kept q (sym (ap is_some (get_inserted m path x q ∙ ap (λ b. cond b (Some x) (get m q)) other)) ∙ h))

-- what holds of each path that is found holds of each that is listed
pub each_at_keys : {X : Type 0} (m : AtPaths X) → IsAtKeys m → AreAtKeyPaths (entries m)
each_at_keys m kept k d inside =
    let es = entries m in
    let listed : k < length (fin.keys m) = simp (length-map) inside in
    let named : slice_index_or (fin.keys m) k d.0 ≡ (slice_index_or es k d).0 = get_or-map (λ e. e.0) es k d d.0 inside in
    let found = list_any-from_Contains (eq_by_cmp_equiv nat_list_cmp_total) _ (fin.keys m) (All-contains_itself (fin.keys m) k d.0 listed) in
    subst (λ (p : List ℕ). IsTrue (is_key_path p)) named (kept _ (fin.contains_key-keys m _ ∙ found))

-- ---- an iterator of texts and what is kept at them

-- what is left after the first
pub rest_after : {V X : Type 0} (read : V → X) (before after : List (String Global × V)) (k : String Global) (v : V) →
    before ≡ (k, v) ∷ after → AreAtKeyPaths (entries_by read before) → AreAtKeyPaths (entries_by read after)
rest_after {V} {X} read before after k v is kept =
    All-rest (λ (e : List ℕ × X). IsTrue (is_key_path e.0)) (string_bytes k, read v) (entries_by read after) (entries_by read before) (ap (entries_by read) is) kept

pub rest_at_keys : {V X : Type 0} (read : V → X) (before after : List (String Global × V)) (first : Option (Bor (String Global) × Bor V)) →
    TakesFirst deref_pair before first after → AreAtKeyPaths (entries_by read before) → AreAtKeyPaths (entries_by read after)
rest_at_keys {V} {X} read before after None is kept = subst (λ (es : List (String Global × V)). AreAtKeyPaths (entries_by read es)) (sym is.1) (All-nil (λ (e : List ℕ × X). IsTrue (is_key_path e.0)))
rest_at_keys read before after (Some x) is kept = rest_after read before after x.0.now x.1.now is kept

-- the first is at the path of a key
pub first_at_key : {V X : Type 0} (read : V → X) (before after : List (String Global × V)) (k : String Global) (v : V) →
    before ≡ (k, v) ∷ after → AreAtKeyPaths (entries_by read before) → IsTrue (is_key_path (string_bytes k))
first_at_key {V} {X} read before after k v is kept =
    All-head (λ (e : List ℕ × X). IsTrue (is_key_path e.0)) (string_bytes k, read v) (entries_by read after) (subst (λ (es : List (String Global × V)). AreAtKeyPaths (entries_by read es)) is kept)

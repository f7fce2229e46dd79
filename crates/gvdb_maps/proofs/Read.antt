-- What the settings that collections stand for have at a path.
use Rattle.std.proofs.Common.{ℕ, ◌≡◌, Bool, true, false, cond, List, [], ◌∷◌, Option, Some, None, option_map, is_some, refl, sym, ◌∙◌, ap, Vec, ◌||◌}
use Rattle.std.specs.BTreeMap.{BTreeMap, is_at, get_by_text, UpdatesBy}
use Rattle.std.specs.BTreeSet.{BTreeSet, contains_text, UpdatesBy as UpdatesSet}
use Rattle.std.specs.Map.{lookup, update}
use Rattle.std.specs.Str.{bytes_eq}
use Rattle.std.specs.List.{list_any}
use Rattle.std.specs.declared.string.String.{String}
use Rattle.std.specs.declared.alloc.Global.{Global}
use Rattle.std.specs.String.{string_bytes, string_cmp}
use Rattle.std.specs.Cmp.Lexicographic.{slice_cmp}
use Rattle.std.specs.Ordering.{nat_cmp, eq_by_cmp}
use Rattle.std.specs.FinMap.{get, contains_key, insert, find, get-from_entries, get-insert, same_map, slice_cmp-IsAntisymmetric, nat_cmp-IsAntisymmetric}
use Rattle.std.specs.Cmp.{eq_by_cmp_equiv}
use Rattle.std.proofs.lemmas.Cmp.{nat_list_cmp_total}
use Rattle.std.proofs.lemmas.Map.Text.{btree_map_updates_text, btree_set_updates_text, is_eq-slice_cmp}
use Rattle.std.proofs.lemmas.Bool.{true≢false}
use Rattle.dconf_model.specs.Settings.{AtPaths, Lock}
use Rattle.gvdb_maps.specs.Maps.{values_of, locks_of, value_entries, lock_entries}

-- equal texts are the same path
pub same_path : (path q : List ℕ) → bytes_eq path q ≡ eq_by_cmp (slice_cmp nat_cmp) q path
same_path path q = sym (is_eq-slice_cmp path q) ∙ (eq_by_cmp_equiv nat_list_cmp_total).symm path q

items_if : (b : Bool) (v : Vec ℕ Global) (o : Option (Vec ℕ Global)) → cond b (Some v.items) (option_map (λ w. w.items) o) ≡ option_map (λ w. w.items) (cond b (Some v) o)
items_if true v o = refl
items_if false v o = refl

find_value : (es : List (String Global × Vec ℕ Global)) (q : List ℕ) → find (slice_cmp nat_cmp) q (value_entries es) ≡ option_map (λ w. w.items) (lookup (is_at (λ k. slice_cmp nat_cmp q (string_bytes k))) es)
find_value [] q = refl
find_value (e ∷ es) q = ap (cond (eq_by_cmp (slice_cmp nat_cmp) q (string_bytes e.0)) (Some e.1.items)) (find_value es q) ∙ items_if _ e.1 _

-- the value at a path
pub get_values : (m : BTreeMap (String Global) (Vec ℕ Global)) (q : List ℕ) → get (values_of m) q ≡ option_map (λ w. w.items) (get_by_text m q)
get_values m q = get-from_entries nat_list_cmp_total (value_entries m.entries) q ∙ find_value m.entries q

-- a value that is inserted is found at its path, and elsewhere what was found before
pub inserted_at : (m : AtPaths (List ℕ)) (f : List ℕ → Option (Vec ℕ Global)) → ((q : List ℕ) → get m q ≡ option_map (λ w. w.items) (f q)) → (path : List ℕ) (v : Vec ℕ Global) (q : List ℕ)
    → get (insert m path v.items) q ≡ option_map (λ w. w.items) (update bytes_eq f path (Some v) q)
inserted_at m f same path v q =
    get-insert nat_list_cmp_total m path v.items q ∙ ap (λ b. cond b (Some v.items) (get m q)) (sym (same_path path q))
    ∙ ap (cond (bytes_eq path q) (Some v.items)) (same q) ∙ items_if (bytes_eq path q) v (f q)

insert_values : (m n : BTreeMap (String Global) (Vec ℕ Global)) (path : List ℕ) (v : Vec ℕ Global) → ((q : List ℕ) → get_by_text n q ≡ update bytes_eq (get_by_text m) path (Some v) q) → values_of n ≡ insert (values_of m) path v.items
insert_values m n path v h = same_map nat_list_cmp_total (slice_cmp-IsAntisymmetric nat_cmp-IsAntisymmetric) _ _ (λ q.
    get_values n q ∙ ap (option_map (λ w. w.items)) (h q) ∙ sym (inserted_at (values_of m) (get_by_text m) (get_values m) path v q))

-- a map that takes a value at a path
pub inserted : (m n : BTreeMap (String Global) (Vec ℕ Global)) (key : String Global) (v : Vec ℕ Global) (path value : List ℕ) → UpdatesBy string_cmp (string_cmp key) m n (Some v) → string_bytes key ≡ path → v.items ≡ value → values_of n ≡ insert (values_of m) path value
inserted m n key v path value updates named held =
    insert_values m n (string_bytes key) v (btree_map_updates_text (string_bytes key) m n (Some v) updates)
    ∙ ap (λ (p : List ℕ). insert (values_of m) p v.items) named ∙ ap (λ (x : List ℕ). insert (values_of m) path x) held

some_if : (b : Bool) (o : Option Lock) → is_some (cond b (Some tt) o) ≡ (b || is_some o)
some_if true o = refl
some_if false o = refl

or_cond : (b c : Bool) → cond b true c ≡ (b || c)
or_cond true c = refl
or_cond false c = refl

same_lock : (x y : Option Lock) → is_some x ≡ is_some y → x ≡ y
same_lock None None e = refl
same_lock None (Some u) e = absurd (true≢false (sym e))
same_lock (Some t) None e = absurd (true≢false e)
same_lock (Some t) (Some u) e = refl

find_lock : (ks : List (String Global)) (q : List ℕ) → is_some (find (slice_cmp nat_cmp) q (lock_entries ks)) ≡ list_any (is_at (λ k. slice_cmp nat_cmp q (string_bytes k))) ks
find_lock [] q = refl
find_lock (k ∷ ks) q = some_if (eq_by_cmp (slice_cmp nat_cmp) q (string_bytes k)) _ ∙ ap (λ b. eq_by_cmp (slice_cmp nat_cmp) q (string_bytes k) || b) (find_lock ks q)

-- whether a path is locked
pub contains_locks : (s : BTreeSet (String Global)) (q : List ℕ) → contains_key (locks_of s) q ≡ contains_text s q
contains_locks s q = ap is_some (get-from_entries nat_list_cmp_total (lock_entries s.keys) q) ∙ find_lock s.keys q

-- a set that takes a path
pub locked : (s n : BTreeSet (String Global)) (key : String Global) (path : List ℕ) → UpdatesSet string_cmp (string_cmp key) s n true → string_bytes key ≡ path → locks_of n ≡ insert (locks_of s) path tt
locked s n key path updates named = same_map nat_list_cmp_total (slice_cmp-IsAntisymmetric nat_cmp-IsAntisymmetric) _ _ (λ q. same_lock _ _ (
    contains_locks n q ∙ btree_set_updates_text (string_bytes key) s n true updates q ∙ or_cond (bytes_eq (string_bytes key) q) (contains_text s q)
    ∙ ap (λ (p : List ℕ). bytes_eq p q || contains_text s q) named
    ∙ ap (λ b. b || contains_text s q) (same_path path q)
    ∙ ap (λ b. eq_by_cmp (slice_cmp nat_cmp) q path || b) (sym (contains_locks s q))
    ∙ sym (ap is_some (get-insert nat_list_cmp_total (locks_of s) path tt q) ∙ some_if _ _)))

-- Values with changes: what is at a path, and what more changes do.
use Rattle.std.proofs.Common.{ℕ, ◌≡◌, Bool, true, false, cond, List, [], ◌∷◌, Option, Some, None, refl, sym, ◌∙◌, ap}
use Rattle.std.specs.Str.{bytes_eq}
use Rattle.std.specs.Option.{unwrap_or}
use Rattle.std.specs.Cmp.Lexicographic.{slice_cmp}
use Rattle.std.specs.Ordering.{nat_cmp, eq_by_cmp}
use Rattle.std.specs.FinMap as fin
use Rattle.std.specs.FinMap.{get, insert, remove, retain_keys, find, entries, empty}
use Rattle.std.proofs.lemmas.Map.Text.{is_eq-slice_cmp}
use Rattle.dconf_model.specs.Values.{stored}
use Rattle.dconf_model.specs.Changes.{Values, with_all}
use Rattle.dconf_model.specs.Sources.{Assigned}
use Rattle.dconf_model.proofs.ParentLaws.{by_bool}
use Rattle.dconf_model.proofs.PathMaps.{get_inserted, get_removed, get_retained, eq_turned}
use Rattle.dconf_engine.specs.Unsaved.{Unsaved, with_change, with_each, with_changes, and_rows}
use Rattle.dconf_model.proofs.DatabaseLaws.{at_paths}

-- ---- what is at a path

get_changed_at : (values : Values) (p : List ℕ) (o : Option (List ℕ)) (q : List ℕ) → get (with_change values p o) q ≡ cond (bytes_eq p q) o (get values q)
get_changed_at values p (Some bytes) q = get_inserted values p bytes q
get_changed_at values p None q = get_removed values p q

or_if : (b : Bool) (o : Option (List ℕ)) (rest : Option (Option (List ℕ))) (base : Option (List ℕ)) → cond b o (unwrap_or rest base) ≡ unwrap_or (cond b (Some o) rest) base
or_if true o rest base = refl
or_if false o rest base = refl

get_each : (cs : List (List ℕ × Option (List ℕ))) (base : Values) (q : List ℕ) → get (with_each cs base) q ≡ unwrap_or (find (slice_cmp nat_cmp) q cs) (get base q)
get_each [] base q = refl
get_each (c ∷ cs) base q =
    get_changed_at (with_each cs base) c.0 c.1 q
    ∙ ap (cond (bytes_eq c.0 q) c.1) (get_each cs base q)
    ∙ ap (λ b. cond b c.1 (unwrap_or (find (slice_cmp nat_cmp) q cs) (get base q))) (eq_turned c.0 q ∙ sym (is_eq-slice_cmp q c.0))
    ∙ or_if (eq_by_cmp (slice_cmp nat_cmp) q c.0) c.1 (find (slice_cmp nat_cmp) q cs) (get base q)

-- the bytes that a path was set to, none where it was reset, and those of the values where it was not changed
pub get_changed : (c : Unsaved) (base : Values) (q : List ℕ) → get (with_changes c base) q ≡ unwrap_or (get c q) (get base q)
get_changed c base q = get_each (entries c) base q ∙ ap (λ o. unwrap_or o (get base q)) (sym (fin.get-entries c q))

-- ---- more changes

pub none_changed : (base : Values) → with_changes empty base ≡ base
none_changed base = at_paths (with_changes empty base) base (λ q. get_changed empty base q ∙ ap (λ o. unwrap_or o (get base q)) (fin.get-empty (slice_cmp nat_cmp) q))

pub changed_more : (c : Unsaved) (base : Values) (p : List ℕ) (o : Option (List ℕ)) → with_changes (insert c p o) base ≡ with_change (with_changes c base) p o
changed_more c base p o = at_paths (with_changes (insert c p o) base) (with_change (with_changes c base) p o) (λ q.
    get_changed (insert c p o) base q
    ∙ ap (λ x. unwrap_or x (get base q)) (get_inserted c p o q)
    ∙ sym (or_if (bytes_eq p q) o (get c q) (get base q))
    ∙ ap (cond (bytes_eq p q) o) (sym (get_changed c base q))
    ∙ sym (get_changed_at (with_changes c base) p o q))

-- a path is set
pub set_more : (c : Unsaved) (base : Values) (p bytes : List ℕ) → with_changes (insert c p (Some bytes)) base ≡ insert (with_changes c base) p bytes
set_more c base p bytes = changed_more c base p (Some bytes)

-- a path is reset
pub reset_more : (c : Unsaved) (base : Values) (p : List ℕ) → with_changes (insert c p None) base ≡ remove (with_changes c base) p
reset_more c base p = changed_more c base p None

-- rows are set
pub rows_more : (rows : List Assigned) (c : Unsaved) (base : Values) → with_changes (and_rows rows c) base ≡ with_all rows (with_changes c base)
rows_more [] c base = refl
rows_more (row ∷ rows) c base =
    rows_more rows (insert c row.path (Some (stored row.value))) base ∙ ap (with_all rows) (set_more c base row.path (stored row.value))

-- Where a test keeps a path, it is as it was; else it has no value: the paths that the test keeps are left.
pub kept_of : (c new : Unsaved) (base : Values) (keep : List ℕ → Bool) →
    ((q : List ℕ) → keep q ≡ true → get new q ≡ get c q) →
    ((q : List ℕ) → keep q ≡ false → unwrap_or (get new q) (get base q) ≡ None) →
    with_changes new base ≡ retain_keys (with_changes c base) keep
kept_of c new base keep same gone = at_paths (with_changes new base) (retain_keys (with_changes c base) keep) (λ q.
    get_changed new base q
    ∙ by_bool (keep q) (unwrap_or (get new q) (get base q) ≡ cond (keep q) (get (with_changes c base) q) None)
    (λ yes. rw yes (ap (λ o. unwrap_or o (get base q)) (same q yes) ∙ sym (get_changed c base q)))
    (λ out. rw out (gone q out))
    ∙ sym (get_retained (with_changes c base) keep q))

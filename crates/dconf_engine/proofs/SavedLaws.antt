-- The settings that are put together of what a layer has and what was set are the user's, without locks.
use Rattle.std.proofs.Common.{◌≡◌, ℕ, suc, arith, Bool, true, false, cond, List, [], ◌∷◌, Option, Some, None, is_some, refl, sym, ap, ◌∙◌, subst, ◌||◌}
use Rattle.std.specs.List.{All, fold, list_any}
use Rattle.std.specs.Option.{option_or, unwrap_or}
use Rattle.std.specs.Str.{bytes_eq}
use Rattle.std.specs.Cmp.Lexicographic.{slice_cmp}
use Rattle.std.specs.Ordering.{nat_cmp, is_lt}
use Rattle.std.specs.FinMap as fin
use Rattle.std.specs.FinMap.{get, contains_key, entries, empty, find}
use Rattle.std.specs.FinMap.Entries.{is_sorted, below_all}
use Rattle.std.proofs.lemmas.Bool.{and_parts, eqb-true}
use Rattle.dconf_model.specs.Settings.{Settings, no_settings}
use Rattle.dconf_model.specs.Changes.{Values, saved, with_all, with_first_layer}
use Rattle.dconf_model.specs.Layers.{Layers}
use Rattle.dconf_model.specs.Sources.{Assigned}
use Rattle.std.proofs.Common.{length, map, nat_eq, slice_get}
use Rattle.dconf_layers.specs.declared.layer.Layer.{Layer}
use Rattle.dconf_layers.specs.LayerRows.{layer_rows, paths_of}
use Rattle.dconf_layers.specs.LayerSettings.{settings_of}
use Rattle.dconf_layers.proofs.EntryLaws.{each_is_there, rows_are}
use Rattle.dconf_model.proofs.ParentLaws.{by_bool}
use Rattle.dconf_model.proofs.PathMaps.{get_inserted, eq_turned}
use Rattle.dconf_model.proofs.SameBytes.{same_path}
use Rattle.dconf_engine.specs.Unsaved.{Unsaved, with_changes}
use Rattle.dconf_engine.specs.EngineLayers.{layers_of}
use Rattle.dconf_engine.specs.Saved.{set_if, unless_changed, with_unchanged, with_sets}
use Rattle.gvdb_maps.proofs.KeysRise.{from_true}
use Rattle.gvdb_maps.proofs.Read.{same_path as tie}
use Rattle.gvdb_maps.proofs.HeldEntries.{less_is_other}
use Rattle.dconf_model.proofs.DatabaseLaws.{at_paths}
use Rattle.dconf_engine.proofs.UnsavedLaws.{get_changed}

-- ---- no locks

same_locks_if : (s : Settings) (p : List ℕ) (o : Option (List ℕ)) → (set_if s p o).locks ≡ s.locks
same_locks_if s p None = refl
same_locks_if s p (Some bytes) = refl

sets_locks : (cs : List (List ℕ × Option (List ℕ))) (s : Settings) → (with_sets cs s).locks ≡ s.locks
sets_locks [] s = refl
sets_locks (c ∷ cs) s = sets_locks cs (set_if s c.0 c.1) ∙ same_locks_if s c.0 c.1

valued_locks : (f : List ℕ → Option (List ℕ)) (ps : List (List ℕ)) (s : Settings) → (fold (λ s p. set_if s p (f p)) s ps).locks ≡ s.locks
valued_locks f [] s = refl
valued_locks f (p ∷ ps) s = valued_locks f ps (set_if s p (f p)) ∙ same_locks_if s p (f p)

-- ---- what was set

-- what a change says of a path, where there is one that sets it
abbrev set_or : Option (Option (List ℕ)) → Option (List ℕ) → Option (List ℕ)
set_or (Some (Some bytes)) o = Some bytes
set_or (Some None) o = o
set_or None o = o

get_set_if : (s : Settings) (p : List ℕ) (o : Option (List ℕ)) (q : List ℕ) → get (set_if s p o).values q ≡ cond (bytes_eq p q) (set_or (Some o) (get s.values q)) (get s.values q)
get_set_if s p (Some bytes) q = get_inserted s.values p bytes q
get_set_if s p None q = both (bytes_eq p q)
  where
    both : (b : Bool) → get s.values q ≡ cond b (get s.values q) (get s.values q)
    both true = refl
    both false = refl

pub find_below : (q : List ℕ) (cs : List (List ℕ × Option (List ℕ))) → below_all (slice_cmp nat_cmp) q cs ≡ true → find (slice_cmp nat_cmp) q cs ≡ None
find_below q [] h = refl
find_below q (c ∷ cs) h =
    let parts = and_parts (is_lt (slice_cmp nat_cmp q c.0)) (below_all (slice_cmp nat_cmp) q cs) h in
    ap (λ b. cond b (Some c.1) (find (slice_cmp nat_cmp) q cs)) (less_is_other (slice_cmp nat_cmp q c.0) parts.0) ∙ find_below q cs parts.1

get_sets : (cs : List (List ℕ × Option (List ℕ))) (s : Settings) (q : List ℕ) → is_sorted (slice_cmp nat_cmp) cs ≡ true →
    get (with_sets cs s).values q ≡ set_or (find (slice_cmp nat_cmp) q cs) (get s.values q)
get_sets [] s q sorted = refl
get_sets (c ∷ cs) s q sorted =
    get_sets cs (set_if s c.0 c.1) q ((and_parts _ _ sorted).1)
    ∙ ap (set_or (find (slice_cmp nat_cmp) q cs)) (get_set_if s c.0 c.1 q)
    ∙ by_bool (bytes_eq c.0 q) (set_or (find (slice_cmp nat_cmp) q cs) (cond (bytes_eq c.0 q) (set_or (Some c.1) (get s.values q)) (get s.values q)) ≡ set_or (find (slice_cmp nat_cmp) q (c ∷ cs)) (get s.values q))
    (λ same.
    let none : find (slice_cmp nat_cmp) q cs ≡ None = subst (λ (p : List ℕ). find (slice_cmp nat_cmp) p cs ≡ None) (same_path c.0 q same)
    (find_below c.0 cs (and_parts _ _ sorted).0) in
    ap (λ b. set_or (find (slice_cmp nat_cmp) q cs) (cond b (set_or (Some c.1) (get s.values q)) (get s.values q))) same
    ∙ ap (λ o. set_or o (set_or (Some c.1) (get s.values q))) none
    ∙ ap (λ b. set_or (cond b (Some c.1) (find (slice_cmp nat_cmp) q cs)) (get s.values q)) (sym same ∙ tie c.0 q))
    (λ other.
    ap (λ b. set_or (find (slice_cmp nat_cmp) q cs) (cond b (set_or (Some c.1) (get s.values q)) (get s.values q))) other
    ∙ ap (λ b. set_or (cond b (Some c.1) (find (slice_cmp nat_cmp) q cs)) (get s.values q)) (sym other ∙ tie c.0 q))

-- ---- what was not changed

twice : (a : Bool) (o x : Option (List ℕ)) → cond a (option_or o (option_or o x)) (option_or o x) ≡ option_or o x
twice true None x = refl
twice true (Some bytes) x = refl
twice false o x = refl

-- what the paths of a list have by f, where that gives something
get_valued : (f : List ℕ → Option (List ℕ)) (ps : List (List ℕ)) (s : Settings) (q : List ℕ) →
    get (fold (λ s p. set_if s p (f p)) s ps).values q ≡ cond (list_any (bytes_eq q) ps) (option_or (f q) (get s.values q)) (get s.values q)
get_valued f [] s q = refl
get_valued f (p ∷ ps) s q =
    let any = list_any (bytes_eq q) ps in
    let old = get s.values q in
    get_valued f ps (set_if s p (f p)) q
    ∙ ap (λ o. cond any (option_or (f q) o) o) (get_set_if s p (f p) q ∙ ap (λ b. cond b (set_or (Some (f p)) old) old) (eq_turned p q))
    ∙ by_bool (bytes_eq q p) (cond any (option_or (f q) (cond (bytes_eq q p) (set_or (Some (f p)) old) old)) (cond (bytes_eq q p) (set_or (Some (f p)) old) old) ≡ cond (bytes_eq q p || any) (option_or (f q) old) old)
    (λ same. rw same (ap (λ o. cond any (option_or (f q) o) o) (or_set (f p) old ∙ ap (λ (p : List ℕ). option_or (f p) old) (sym (same_path q p same))) ∙ twice any (f q) old))
    (λ other. rw other refl)
  where
    or_set : (o x : Option (List ℕ)) → set_or (Some o) x ≡ option_or o x
    or_set None x = refl
    or_set (Some bytes) x = refl

-- ---- together

together : (c : Option (Option (List ℕ))) (o : Option (List ℕ)) (listed : Bool) → ((bytes : List ℕ) → o ≡ Some bytes → listed ≡ true) →
    set_or c (cond listed (option_or (cond (is_some c) None o) None) None) ≡ unwrap_or c o
together (Some (Some bytes)) o listed each = refl
together (Some None) o true each = refl
together (Some None) o false each = refl
together None None true each = refl
together None None false each = refl
together None (Some bytes) listed each = ap (λ b. cond b (Some bytes) None) (each bytes refl)

-- rows that the values have, by their paths
by_paths : (base : Values) (u : Unsaved) (rows : List (List ℕ × List ℕ)) (s : Settings) → All (λ row. get base row.0 ≡ Some row.1) rows →
    with_unchanged u rows s ≡ fold (λ s p. set_if s p (cond (contains_key u p) None (get base p))) s (paths_of rows)
by_paths base u [] s are = refl
by_paths base u (row ∷ rows) s are =
    by_paths base u rows (unless_changed u s row.0 (Some row.1)) (λ k d lt. are (suc k) d (omega (arith, lt)))
    ∙ ap (λ o. fold (λ s p. set_if s p (cond (contains_key u p) None (get base p))) (unless_changed u s row.0 o) (paths_of rows)) (sym (are 0 row (omega arith)))

pub put_together : (base : Values) (u : Unsaved) (rows : List (List ℕ × List ℕ)) → All (λ row. get base row.0 ≡ Some row.1) rows → ((p bytes : List ℕ) → get base p ≡ Some bytes → list_any (bytes_eq p) (paths_of rows) ≡ true) →
    with_sets (entries u) (with_unchanged u rows no_settings) ≡ record { values = with_changes u base; locks = empty }
put_together base u rows are each =
    let ps = paths_of rows in
    let left : List ℕ → Option (List ℕ) = (λ p. cond (contains_key u p) None (get base p)) in
    let s : Settings = fold (λ s p. set_if s p (left p)) no_settings ps in
    let whole = with_sets (entries u) s in
    let values : whole.values ≡ with_changes u base = at_paths whole.values (with_changes u base) (λ q.
    get_sets (entries u) s q (from_true _ (fin.entries_sorted u))
    ∙ ap (λ c. set_or c (get s.values q)) (sym (fin.get-entries u q))
    ∙ ap (set_or (get u q)) (get_valued left ps no_settings q ∙ ap (λ o. cond (list_any (bytes_eq q) ps) (option_or (left q) o) o) (fin.get-empty (slice_cmp nat_cmp) q))
    ∙ together (get u q) (get base q) (list_any (bytes_eq q) ps) (λ bytes e. each q bytes e)
    ∙ sym (get_changed u base q)) in
    let locks : whole.locks ≡ empty = sets_locks (entries u) s ∙ valued_locks left ps no_settings in
    ap (with_sets (entries u)) (by_paths base u rows no_settings are) ∙ (λ i. record { values = values i; locks = locks i })

-- ---- the first layer

pub saved_first : (c : Unsaved) (items : List Layer) (item : Layer) → slice_get items 0 ≡ Some item →
    with_sets (entries c) (with_unchanged c (layer_rows item) no_settings)
    ≡ saved (with_first_layer (with_changes c) (map settings_of items))
saved_first c [] item e = absurd cc
saved_first c (x ∷ items) item e =
    put_together (settings_of item).values c (layer_rows item) (rows_are item) (each_is_there item)
    ∙ ap (λ (o : Option Layer). saved_values o) (sym e)
  where
    saved_values : Option Layer → Settings
    saved_values (Some i) = record { values = with_changes c (settings_of i).values; locks = empty }
    saved_values None = no_settings

-- ---- rows

-- rows that are added to what is saved of a first layer are saved with it
pub saved_loaded : (c : Unsaved) (items : List Layer) (writable : Bool) (l : Layers) (rows : List Assigned) (s : Settings) → layers_of c items writable ≡ l → nat_eq (length items) 0 ≡ false →
    s ≡ saved (with_first_layer (with_changes c) (map settings_of items)) → record s { values = with_all rows s.values } ≡ saved (with_first_layer (with_all rows) l.layers)
saved_loaded c [] writable l rows s is some e = absurd cc
saved_loaded c (x ∷ items) writable l rows s is some e =
    ap (λ (s : Settings). record s { values = with_all rows s.values }) e ∙ ap (λ (l : Layers). saved (with_first_layer (with_all rows) l.layers)) is

pub none_loaded : (c : Unsaved) (items : List Layer) (writable : Bool) (l : Layers) (rows : List Assigned) → layers_of c items writable ≡ l → nat_eq (length items) 0 ≡ true →
    no_settings ≡ saved (with_first_layer (with_all rows) l.layers)
none_loaded c [] writable l rows is none = ap (λ (l : Layers). saved (with_first_layer (with_all rows) l.layers)) is
none_loaded c (x ∷ items) writable l rows is none =
    let zero : suc (length items) ≡ 0 = eqb-true (suc (length items)) 0 none in
    absurd (omega (arith, zero))

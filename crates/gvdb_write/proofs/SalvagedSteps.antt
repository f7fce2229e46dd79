-- What is salvaged, item by item.
use Rattle.std.proofs.lemmas.Grind.{common_steps}
use Rattle.std.proofs.Common.{◌≡◌, ◌<◌, ◌≤◌, ◌+◌, ◌↔◌, ◌⊎◌, inl, inr, ℕ, List, Option, Some, None, Result, Ok, Err, is_ok, is_err, true, false, cond, IsTrue, refl, sym, ◌∙◌, ap, subst, arith}
use Rattle.std.specs.Prelude.{IsSome, is_some}
use Rattle.std.specs.FinMap.{get, contains_key, insert, empty, get-empty}
use Rattle.std.specs.Cmp.Lexicographic.{slice_cmp}
use Rattle.std.specs.Ordering.{nat_cmp}
use Rattle.std.specs.Str.{bytes_eq}
use Rattle.std.proofs.lemmas.Bool.{both_ways}
use Rattle.std.proofs.lemmas.Option.{none-some, same_Some}
use Rattle.dconf_model.specs.Settings.{Settings, AtPaths, Lock, no_settings, with_value, with_lock}
use Rattle.dconf_model.specs.Table.{Table, item, item_count, bytes_of, value_kind, table_of}
use Rattle.dconf_model.specs.Names.{HasName, IsRow}
use Rattle.dconf_model.specs.Opening.{root_of}
use Rattle.dconf_model.specs.Salvaging.{IsKeyText, IsLowest, IsLowestValue, IsOpenLocks, IsSalvaged}
use Rattle.dconf_model.proofs.NameSteps.{is_item}
use Rattle.dconf_model.proofs.LaidNames.{one_name}
use Rattle.dconf_model.proofs.ParentLaws.{by_bool}
use Rattle.dconf_model.proofs.PathMaps.{get_inserted}
use Rattle.dconf_model.proofs.SameBytes.{same_path, path_itself}
use Rattle.gvdb_write.specs.Salvaged.{HasLowestValues, IsLowestLocks, SpellsLock, TakesLock, TakesValue}

-- ---- values

-- of the items from n on, the lowest that has a value of that name
abbrev IsLowestFrom : Table → ℕ → List ℕ → List ℕ → Type 0
IsLowestFrom t n path bytes = (i : ℕ) × IsLowest (λ k. (n ≤ k) × IsRow t path value_kind k) i × (bytes_of t i ≡ bytes)

-- each path of a key has that of the items from n on
abbrev pub AreLowestFrom : Table → ℕ → Settings → Type 0
AreLowestFrom t n s = (path bytes : List ℕ) → (get s.values path ≡ Some bytes) ↔ (IsKeyText path × IsLowestFrom t n path bytes)

pub none_from : (t : Table) (n : ℕ) → item_count t ≤ n → AreLowestFrom t n no_settings
none_from t n all path bytes = (
  λ e. absurd (none-some bytes (sym (get-empty (slice_cmp nat_cmp) path) ∙ e)),
  λ h.
      let from = h.1.1.has.0 in
      let counted = (is_item t h.1.0 path h.1.1.has.1.named).counted in
      absurd (omega (arith, from, counted, all)),
)

still_lowest : (t : Table) (n : ℕ) (path bytes : List ℕ) → (IsRow t path value_kind n → ⊥) → IsLowestFrom t (n + 1) path bytes ↔ IsLowestFrom t n path bytes
still_lowest t n path bytes other = grind (arith, common_steps)

-- the name of this item has its value
this_lowest : (t : Table) (n : ℕ) (path bytes : List ℕ) → IsRow t path value_kind n → (bytes_of t n ≡ bytes) ↔ IsLowestFrom t n path bytes
this_lowest t n path bytes row = grind (arith, common_steps)

set_from : (t : Table) (n : ℕ) (old : Settings) (q : List ℕ) → AreLowestFrom t (n + 1) old → IsKeyText q → IsRow t q value_kind n → AreLowestFrom t n (with_value old q (bytes_of t n))
set_from t n old q below text row path bytes =
    by_bool (bytes_eq q path) ((get (insert old.values q (bytes_of t n)) path ≡ Some bytes) ↔ (IsKeyText path × IsLowestFrom t n path bytes))
    (λ same.
    let is = same_path q path same in
    let lowest = this_lowest t n path bytes (subst (λ (p : List ℕ). IsRow t p value_kind n) is row) in
    let got = get_inserted old.values q (bytes_of t n) path ∙ ap (λ x. cond x (Some (bytes_of t n)) (get old.values path)) same in (
      λ e. (subst IsKeyText is text, lowest.0 (same_Some (bytes_of t n) bytes (sym got ∙ e))),
      λ h. got ∙ ap (λ (b : List ℕ). Some b) (lowest.1 h.1),
    ))
    (λ other.
    let not_row : IsRow t path value_kind n → ⊥ = λ r. let same = path_itself q path (one_name t n q path row.named r.named) in both_ways (bytes_eq q path) other same in
    let got = get_inserted old.values q (bytes_of t n) path ∙ ap (λ x. cond x (Some (bytes_of t n)) (get old.values path)) other in (
      λ e. let h = (below path bytes).0 (sym got ∙ e) in (h.0, (still_lowest t n path bytes not_row).0 h.1),
      λ h. got ∙ (below path bytes).1 (h.0, (still_lowest t n path bytes not_row).1 h.1),
    ))

pub one_from : (t : Table) (n : ℕ) (old new : Settings) → AreLowestFrom t (n + 1) old → TakesValue t n old new → AreLowestFrom t n new
one_from t n old new below (inl none) =
    subst (AreLowestFrom t n) (sym none.0) (λ path bytes. (
      λ e. let h = (below path bytes).0 e in (h.0, (still_lowest t n path bytes (none.1 path h.0)).0 h.1),
      λ h. (below path bytes).1 (h.0, (still_lowest t n path bytes (none.1 path h.0)).1 h.1),
    ))
one_from t n old new below (inr set) = subst (AreLowestFrom t n) (sym set.3) (set_from t n old set.0 below set.1 set.2)

-- after all items each path has its lowest value
pub all_lowest : (t : Table) (s : Settings) → AreLowestFrom t 0 s → HasLowestValues t s
all_lowest t s from path bytes = (
  λ e. let h = (from path bytes).0 e in (h.0, (h.1.0, record { has = h.1.1.has.1; lowest = λ k r. h.1.1.lowest k (omega arith, r) }, h.1.2)),
  λ h. (from path bytes).1 (h.0, (h.1.0, record { has = (omega arith, h.1.1.has); lowest = λ k r. h.1.1.lowest k r.1 }, h.1.2)),
)

pub same_locks : {t : Table} {i : ℕ} {old new : Settings} → TakesValue t i old new → new.locks ≡ old.locks
same_locks (inl none) = ap (λ (s : Settings). s.locks) none.0
same_locks (inr set) = ap (λ (s : Settings). s.locks) set.3

-- what is refused is not taken
pub refused : {X Y : Type 0} (r : Result X Y) → is_ok r ≡ true → is_err r ≡ true → ⊥
refused (Ok x) ok err = let bad : false ≡ true = err in cc
refused (Err y) ok err = let bad : false ≡ true = ok in cc

not_some : {X : Type 0} (o : Option X) → o ≡ None → IsSome o → ⊥
not_some o e h = let bad : false ≡ true = sym (ap is_some e) ∙ h in cc

-- ---- locks

pub takes_no_lock : (t : Table) (i : ℕ) (s : Settings) → ((path : List ℕ) → SpellsLock t i path → ⊥) → TakesLock t i s s
takes_no_lock t i s none = grind (arith, common_steps)

pub takes_lock : (t : Table) (i : ℕ) (s : Settings) (path : List ℕ) → SpellsLock t i path → TakesLock t i s (with_lock s path)
takes_lock t i s path spells = record {
  locks = λ q. (
    λ h.
        by_bool (bytes_eq path q) (IsTrue (contains_key s.locks q) ⊎ SpellsLock t i q)
        (λ same. inr (subst (SpellsLock t i) (same_path path q same) spells))
        (λ other. inl (sym (ap is_some (got q ∙ ap (λ x. cond x (Some tt) (get s.locks q)) other)) ∙ h)),
    λ h. elim h [
      | inl e ↦
          by_bool (bytes_eq path q) (IsTrue (contains_key (insert s.locks path tt) q))
          (λ same. ap is_some (got q ∙ ap (λ x. cond x (Some tt) (get s.locks q)) same))
          (λ other. ap is_some (got q ∙ ap (λ x. cond x (Some tt) (get s.locks q)) other) ∙ e)
      | inr other ↦
          let same = path_itself path q (one_name t i path q spells.named other.named) in
          ap is_some (got q ∙ ap (λ x. cond x (Some tt) (get s.locks q)) same)
    ],
  );
  same_values = refl;
}
  where
    got : (q : List ℕ) → get (insert s.locks path tt) q ≡ cond (bytes_eq path q) (Some tt) (get s.locks q)
    got q = get_inserted s.locks path tt q

-- beside what was locked, what the items before n spell
abbrev pub AreLockedBelow : Table → ℕ → Settings → Settings → Type 0
AreLockedBelow t n old new =
    (path : List ℕ) → IsTrue (contains_key new.locks path) ↔ (IsTrue (contains_key old.locks path) ⊎ ((i : ℕ) × (i < n) × SpellsLock t i path))

pub none_locked : (t : Table) (s : Settings) → AreLockedBelow t 0 s s
none_locked t s path = (λ h. inl h, λ h. elim h [ inl e ↦ e | inr r ↦ absurd (omega (arith, r.1)) ])

pub one_locked : (t : Table) (n : ℕ) (old mid new : Settings) → AreLockedBelow t n old mid → TakesLock t n mid new → AreLockedBelow t (n + 1) old new
one_locked t n old mid new below takes path = grind (arith, common_steps)

-- after all items each path that an item spells
pub all_locked : (t : Table) (n : ℕ) (old new : Settings) → AreLockedBelow t n old new → item_count t ≤ n →
    (path : List ℕ) → IsTrue (contains_key new.locks path) ↔ (IsTrue (contains_key old.locks path) ⊎ ((i : ℕ) × SpellsLock t i path))
all_locked t n old new below all path = (
  λ h. elim ((below path).0 h) [ inl e ↦ inl e | inr r ↦ inr (r.0, r.2) ],
  λ h. elim h [
    | inl e ↦ (below path).1 (inl e)
    | inr r ↦ (below path).1 (inr (r.0, (let counted = (is_item t r.0 path r.1.named).counted in omega (arith, counted, all)), r.1))
  ],
)

-- ---- all of it

pub salvaged_with_locks : (file : List ℕ) (old new : Settings) (locks : Table) → HasLowestValues (root_of file) old → old.locks ≡ empty → IsLowestLocks (root_of file) locks →
    ((path : List ℕ) → IsTrue (contains_key new.locks path) ↔ (IsTrue (contains_key old.locks path) ⊎ ((i : ℕ) × SpellsLock locks i path))) → new.values ≡ old.values → IsSalvaged file new
salvaged_with_locks file old new locks values none low spelled same = record {
  values = λ path bytes. subst (λ (m : AtPaths (List ℕ)). (get m path ≡ Some bytes) ↔ (IsKeyText path × IsLowestValue (root_of file) path bytes)) (sym same) (values path bytes);
  locks = λ path. (
    λ h. elim ((spelled path).0 h) [
      | inl e ↦ absurd (no_lock path e)
      | inr r ↦ (
        r.1.text,
        record {
          locks = low.0;
          is_lowest = low.1;
          lock = r.0;
          named = subst (λ (t : Table). HasName t r.0 path) low.2 r.1.named;
          of_kind = subst (λ (t : Table). (item t r.0).kind ≡ value_kind) low.2 r.1.of_kind;
        },
      )
    ],
    λ h.
        let n = h.1 in
        let a : n.locks ≤ low.0 = n.is_lowest.lowest low.0 low.1.has in
        let b : low.0 ≤ n.locks = low.1.lowest n.locks n.is_lowest.has in
        let is : table_of (root_of file) n.locks ≡ locks = ap (table_of (root_of file)) (omega (arith, a, b)) ∙ sym low.2 in
        (spelled path).1 (inr (
          n.lock,
          record {
            text = h.0;
            named = subst (λ (t : Table). HasName t n.lock path) is n.named;
            of_kind = subst (λ (t : Table). (item t n.lock).kind ≡ value_kind) is n.of_kind;
          },
        )),
  );
}
  where
    no_lock : (path : List ℕ) → IsTrue (contains_key old.locks path) → ⊥
    no_lock path h = not_some (get old.locks path) (ap (λ (m : AtPaths Lock). get m path) none ∙ get-empty (slice_cmp nat_cmp) path) h

pub salvaged_without_locks : (file : List ℕ) (s : Settings) → HasLowestValues (root_of file) s → s.locks ≡ empty → ((i : ℕ) → IsOpenLocks (root_of file) i → ⊥) → IsSalvaged file s
salvaged_without_locks file s values none no_table = record {
  values = values;
  locks = λ path. (
    λ h. absurd (not_some (get s.locks path) (ap (λ (m : AtPaths Lock). get m path) none ∙ get-empty (slice_cmp nat_cmp) path) h),
    λ h. absurd (no_table h.1.locks h.1.is_lowest.has),
  );
}

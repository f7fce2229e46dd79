-- What a sound database says is what is gathered from its items.
use Rattle.std.proofs.Common.{◌≡◌, ◌<◌, ◌≤◌, ℕ, zero, suc, Bool, true, false, cond, List, [], ◌∷◌, ◌++◌, Option, Some, None, refl, sym, ap, ◌∙◌, subst, arith, ⊎_elim, codes, eqb}
use Rattle.std.specs.Prelude.{IsTrue, is_some}
use Rattle.std.specs.Option.{option_or}
use Rattle.std.specs.Str.{bytes_eq}
use Rattle.std.specs.Cmp.Lexicographic.{slice_cmp, nat_list_cmp_total}
use Rattle.std.specs.Ordering.{nat_cmp, eq_by_cmp}
use Rattle.std.specs.FinMap.{get, get-from_entries}
use Rattle.std.specs.FinMap.Entries.{find}
use Rattle.std.proofs.lemmas.Bool.{eqb-true, eq-eqb, cases_lt}
use Rattle.std.proofs.lemmas.Option.{none-some}
use Rattle.std.proofs.lemmas.Map.Text.{is_eq-slice_cmp}
use Rattle.dconf_model.specs.Paths.{is_path}
use Rattle.dconf_model.specs.Settings.{Lock}
use Rattle.dconf_model.specs.Table.{Table, table_of, item, item_count, bytes_of, value_kind}
use Rattle.dconf_model.specs.Names.{HasName, Rows, name_of}
use Rattle.dconf_model.specs.Opening.{root_of}
use Rattle.dconf_model.specs.Sound.{IsSound}
use Rattle.dconf_model.specs.Sound.Rule.{content}
use Rattle.dconf_model.specs.Databases.{NamesLock, SaysWhatIsInIt, SaysSettings, gathered, row_of_value, value_rows, lock_of_name, named_locks, locks_of_item, lock_rows}
use Rattle.dconf_model.proofs.ParentLaws.{by_bool}
use Rattle.dconf_model.proofs.ComputedNames.{name_of_named, named_of_name}
use Rattle.dconf_model.proofs.RowLaws.{counted, one_item}
use Rattle.dconf_model.proofs.SoundLaws.{sound_is_searchable}
use Rattle.dconf_model.proofs.KeyNames.{values_are_keys}
use Rattle.dconf_model.proofs.PathMaps.{no_truth}
use Rattle.dconf_model.proofs.SameBytes.{same_path, path_itself}

-- the entry of a path
abbrev found : {X : Type 0} → List ℕ → List (List ℕ × X) → Option X
found q es = find (slice_cmp nat_cmp) q es

-- ---- what is gathered

found_after : {X : Type 0} (q : List ℕ) (es fs : List (List ℕ × X)) → found q (es ++ fs) ≡ option_or (found q es) (found q fs)
found_after q [] fs = refl
found_after q (e ∷ es) fs = go (eq_by_cmp (slice_cmp nat_cmp) q e.0) (found_after q es fs)
  where
    go : (b : Bool) → found q (es ++ fs) ≡ option_or (found q es) (found q fs) → cond b (Some e.1) (found q (es ++ fs)) ≡ option_or (cond b (Some e.1) (found q es)) (found q fs)
    go true rest = refl
    go false rest = rest

-- some item gives what is found
given_by : {X : Type 0} (f : ℕ → List (List ℕ × X)) (q : List ℕ) (x : X) (n : ℕ) → found q (gathered f n) ≡ Some x → (i : ℕ) × (i < n) × (found q (f i) ≡ Some x)
given_by f q x zero e = absurd (none-some x e)
given_by {X = X} f q x (suc n) e = go (found q (gathered f n)) (sym (found_after q (gathered f n) (f n)) ∙ e) (given_by f q x n)
  where
    go : (o : Option X) → option_or o (found q (f n)) ≡ Some x → (o ≡ Some x → (i : ℕ) × (i < n) × (found q (f i) ≡ Some x)) → (i : ℕ) × (i < suc n) × (found q (f i) ≡ Some x)
    go None g earlier = (n, omega arith, g)
    go (Some y) g earlier = let h = earlier g in (h.0, omega (arith, h.1), h.2)

some_or : {X : Type 0} (p q : Option X) → is_some q ≡ true → is_some (option_or p q) ≡ true
some_or None q e = e
some_or (Some x) q e = refl

some_first : {X : Type 0} (p q : Option X) → is_some p ≡ true → is_some (option_or p q) ≡ true
some_first None q e = absurd (no_truth e)
some_first (Some x) q e = refl

-- what an item gives is found
found_of : {X : Type 0} (f : ℕ → List (List ℕ × X)) (q : List ℕ) (n i : ℕ) → i < n → is_some (found q (f i)) ≡ true → is_some (found q (gathered f n)) ≡ true
found_of f q zero i here e = absurd (omega (arith, here))
found_of f q (suc n) i here e =
    ap is_some (found_after q (gathered f n) (f n)) ∙ ⊎_elim
    (λ (l : i < n). some_first (found q (gathered f n)) (found q (f n)) (found_of f q n i l e))
    (λ (g : n ≤ i). let same : i ≡ n = omega (arith, here, g) in some_or (found q (gathered f n)) (found q (f n)) (subst (λ j. is_some (found q (f j)) ≡ true) same e))
    (cases_lt i n)

-- ---- one entry

one_entry : {X : Type 0} (q name : List ℕ) (x y : X) → found q ((name, x) ∷ []) ≡ Some y → (name ≡ q) × (x ≡ y)
one_entry q name x y e =
    by_bool (bytes_eq q name) ((name ≡ q) × (x ≡ y))
    (λ same. (sym (same_path q name same), (let is : Some x ≡ Some y = sym (ap (λ b. cond b (Some x) None) (is_eq-slice_cmp q name ∙ same)) ∙ e in cc)))
    (λ other. absurd (none-some y (sym (ap (λ b. cond b (Some x) None) (is_eq-slice_cmp q name ∙ other)) ∙ e)))

entry_found : {X : Type 0} (q : List ℕ) (x : X) → is_some (found q ((q, x) ∷ [])) ≡ true
entry_found q x = ap (λ b. is_some (cond b (Some x) None)) (is_eq-slice_cmp q q ∙ path_itself q q refl)

-- ---- values

value_given : (t : Table) (i : ℕ) (q b : List ℕ) (o : Option (List ℕ)) → found q (row_of_value t i o) ≡ Some b → (o ≡ Some q) × ((item t i).kind ≡ value_kind) × (bytes_of t i ≡ b)
value_given t i q b None e = absurd (none-some b (e))
value_given t i q b (Some name) e =
    by_bool (eqb (item t i).kind value_kind) ((Some name ≡ Some q) × ((item t i).kind ≡ value_kind) × (bytes_of t i ≡ b))
    (λ is.
    let one = one_entry q name (bytes_of t i) b (sym (ap (λ (k : Bool). found q (cond k ((name, bytes_of t i) ∷ []) [])) is) ∙ e) in
    (ap (λ (n : List ℕ). Some n) one.0, eqb-true (item t i).kind value_kind is, one.1))
    (λ other. absurd (none-some b (sym (ap (λ (k : Bool). found q (cond k ((name, bytes_of t i) ∷ []) [])) other) ∙ e)))

value_found : (t : Table) (i : ℕ) (q : List ℕ) → (item t i).kind ≡ value_kind → is_some (found q (row_of_value t i (Some q))) ≡ true
value_found t i q is = ap (λ (k : Bool). is_some (found q (cond k ((q, bytes_of t i) ∷ []) []))) (eq-eqb (item t i).kind value_kind is) ∙ entry_found q (bytes_of t i)

pub is_there : {X : Type 0} (o : Option X) → is_some o ≡ true → (x : X) × (o ≡ Some x)
is_there None e = absurd (no_truth e)
is_there (Some x) e = (x, refl)

rows_given : (t : Table) (q b : List ℕ) → IsSound t → found q (value_rows t) ≡ Some b → Rows t q value_kind b
rows_given t q b sound e =
    let h = given_by (λ i. row_of_value t i (name_of t i)) q b (item_count t) e in
    let v = value_given t h.0 q b (name_of t h.0) h.2 in
    (h.0, record { named = named_of_name t h.0 q v.0; of_kind = v.1; valid = (sound content h.0 h.1).valid }, v.2)

rows_found : (t : Table) (q b : List ℕ) → IsSound t → Rows t q value_kind b → found q (value_rows t) ≡ Some b
rows_found t q b sound row =
    let i = row.0 in
    let there = found_of (λ i. row_of_value t i (name_of t i)) q (item_count t) i (counted t i q row.1.named)
    (ap (λ o. is_some (found q (row_of_value t i o))) (name_of_named t i q row.1.named) ∙ value_found t i q row.1.of_kind) in
    let some = is_there (found q (value_rows t)) there in
    let other = rows_given t q some.0 sound some.1 in
    let same : i ≡ other.0 = one_item t q i other.0 (sound_is_searchable t sound) row.1.named other.1.named in
    some.1 ∙ ap (λ (x : List ℕ). Some x) (sym other.2 ∙ (sym (ap (λ j. bytes_of t j) same) ∙ row.2))

-- ---- locks

name_given : (q : List ℕ) (l : Lock) (o : Option (List ℕ)) → found q (lock_of_name o) ≡ Some l → (o ≡ Some q) × IsTrue (is_path q)
name_given q l None e = absurd (none-some l (e))
name_given q l (Some name) e =
    by_bool (is_path name) ((Some name ≡ Some q) × IsTrue (is_path q))
    (λ is.
    let one = one_entry q name tt l (sym (ap (λ (k : Bool). found q (cond k ((name, tt) ∷ []) [])) is) ∙ e) in
    (ap (λ (n : List ℕ). Some n) one.0, subst (λ n. is_path n ≡ true) one.0 is))
    (λ other. absurd (none-some l (sym (ap (λ (k : Bool). found q (cond k ((name, tt) ∷ []) [])) other) ∙ e)))

names_given : (t : Table) (q : List ℕ) (l : Lock) → found q (named_locks t) ≡ Some l → IsTrue (is_path q) × ((j : ℕ) × HasName t j q)
names_given t q l e =
    let h = given_by (λ i. lock_of_name (name_of t i)) q l (item_count t) e in
    let n = name_given q l (name_of t h.0) h.2 in
    (n.1, (h.0, named_of_name t h.0 q n.0))

names_found : (t : Table) (q : List ℕ) (j : ℕ) → IsTrue (is_path q) → HasName t j q → is_some (found q (named_locks t)) ≡ true
names_found t q j path h =
    found_of (λ i. lock_of_name (name_of t i)) q (item_count t) j (counted t j q h)
    (ap (λ o. is_some (found q (lock_of_name o))) (name_of_named t j q h) ∙ (ap (λ (k : Bool). is_some (found q (cond k ((q, tt) ∷ []) []))) path ∙ entry_found q tt))

table_given : (t : Table) (i : ℕ) (q : List ℕ) (l : Lock) (o : Option (List ℕ)) → found q (locks_of_item t i o) ≡ Some l → (o ≡ Some (codes ".locks")) × (found q (named_locks (table_of t i)) ≡ Some l)
table_given t i q l None e = absurd (none-some l (e))
table_given t i q l (Some name) e =
    by_bool (bytes_eq name (codes ".locks")) ((Some name ≡ Some (codes ".locks")) × (found q (named_locks (table_of t i)) ≡ Some l))
    (λ is. (ap (λ (n : List ℕ). Some n) (same_path name (codes ".locks") is), sym (ap (λ (k : Bool). found q (cond k (named_locks (table_of t i)) [])) is) ∙ e))
    (λ other. absurd (none-some l (sym (ap (λ (k : Bool). found q (cond k (named_locks (table_of t i)) [])) other) ∙ e)))

locks_given : (t : Table) (q : List ℕ) (l : Lock) → found q (lock_rows t) ≡ Some l → IsTrue (is_path q) × NamesLock t q
locks_given t q l e =
    let h = given_by (λ i. locks_of_item t i (name_of t i)) q l (item_count t) e in
    let g = table_given t h.0 q l (name_of t h.0) h.2 in
    let n = names_given (table_of t h.0) q l g.1 in
    (n.0, (h.0, named_of_name t h.0 (codes ".locks") g.0, n.1))

locks_found : (t : Table) (q : List ℕ) → IsTrue (is_path q) → NamesLock t q → is_some (found q (lock_rows t)) ≡ true
locks_found t q path names =
    let i = names.0 in
    found_of (λ i. locks_of_item t i (name_of t i)) q (item_count t) i (counted t i (codes ".locks") names.1)
    (ap (λ o. is_some (found q (locks_of_item t i o))) (name_of_named t i (codes ".locks") names.1)
    ∙ (ap (λ (k : Bool). is_some (found q (cond k (named_locks (table_of t i)) []))) (path_itself (codes ".locks") (codes ".locks") refl)
    ∙ names_found (table_of t i) q names.2.0 path names.2.1))

-- ---- both

pub says_what_is_in_it : SaysWhatIsInIt
says_what_is_in_it file database sound =
    let t = root_of file in
    record {
      values = λ path bytes. (
        λ row. get-from_entries nat_list_cmp_total (value_rows t) path ∙ rows_found t path bytes sound row,
        λ e. rows_given t path bytes sound (sym (get-from_entries nat_list_cmp_total (value_rows t) path) ∙ e),
      );
      locks = λ path. (
        λ there. let some = is_there (found path (lock_rows t)) (sym (ap is_some (get-from_entries nat_list_cmp_total (lock_rows t) path)) ∙ there) in locks_given t path some.0 some.1,
        λ named. ap is_some (get-from_entries nat_list_cmp_total (lock_rows t) path) ∙ locks_found t path named.0 named.1,
      );
    }

pub says_settings : SaysSettings
says_settings file s sound says = record {
  valued = λ path there.
      let some = is_there (get s.values path) there in
      let row = (says.values path some.0).1 some.1 in
      values_are_keys (root_of file) path row.0 sound row.1.named row.1.of_kind;
  locked = λ path there. ((says.locks path).0 there).0;
}

-- Entries in order, of each path the last, stand for the same values as they did as they came.
use Rattle.std.proofs.Common.{ℕ, ◌≡◌, suc, ◌+◌, Bool, true, false, cond, List, [], ◌∷◌, ◌++◌, Option, Some, refl, sym, ap, ◌∙◌, subst, arith, inl, inr, ◌&&◌, Vec}
use Rattle.std.specs.BTreeSet.{BTreeSet}
use Rattle.std.specs.Cmp.Lexicographic.{slice_cmp}
use Rattle.std.specs.FinMap.{empty, from_entries, get, insert, slice_cmp-IsAntisymmetric, nat_cmp-IsAntisymmetric}
use Rattle.std.specs.FinMap.Entries.{below_all, is_sorted}
use Rattle.std.specs.List.{fold}
use Rattle.std.specs.List.Sorted.{IsSortedBy}
use Rattle.std.specs.Ordering.{nat_cmp, is_le, is_lt, ordering_reverse}
use Rattle.std.specs.Str.{bytes_eq}
use Rattle.std.specs.declared.alloc.Global.{Global}
use Rattle.std.specs.declared.cmp.Ordering.{Ordering}
use Rattle.std.specs.declared.cmp.Ordering.TheVariants.{Less, Equal, Greater}
use Rattle.std.specs.declared.string.String.{String}
use Rattle.std.specs.String.{string_bytes}
use Rattle.std.proofs.lemmas.Bool.{and_parts, true≢false}
use Rattle.std.proofs.lemmas.Cmp.{nat_list_cmp_total, tied_itself}
use Rattle.std.proofs.lemmas.List.{map-append}
use Rattle.std.proofs.lemmas.List.Sums.{fold-append}
use Rattle.dconf_model.specs.Order.{in_order, is_at_most, put_by}
use Rattle.dconf_model.specs.Settings.{AtPaths, with_value}
use Rattle.dconf_model.proofs.DatabaseLaws.{at_paths}
use Rattle.dconf_model.proofs.OrderLaws.{order_is_stable}
use Rattle.dconf_model.proofs.PathMaps.{get_inserted}
use Rattle.dconf_model.proofs.RisingTexts.{IsLess, less_of, never_less}
use Rattle.dconf_model.proofs.SameBytes.{path_itself, same_or_not, same_path}
use Rattle.gvdb_maps.specs.Maps.{AreSorted, locks_of, sorted_settings, value_entries, Entry, StandForSame, kept, kept_from, settings_of_rows, values_after}

abbrev after : AtPaths (List ℕ) → List Entry → AtPaths (List ℕ)
after m es = fold (λ m e. insert m e.0 e.1) m es

abbrev path_of : Entry → List ℕ
path_of e = e.0

-- ---- two values that are set

again : (b : Bool) (x y : List ℕ) (g : Option (List ℕ)) → cond b (Some y) (cond b (Some x) g) ≡ cond b (Some y) g
again true x y g = refl
again false x y g = refl

-- at one path
overwritten : (m : AtPaths (List ℕ)) (x y : Entry) → y.0 ≡ x.0 → insert (insert m x.0 x.1) y.0 y.1 ≡ insert m y.0 y.1
overwritten m x y same =
    at_paths _ _ (λ q. get_inserted (insert m x.0 x.1) y.0 y.1 q
    ∙ (ap (cond (bytes_eq y.0 q) (Some y.1)) (get_inserted m x.0 x.1 q ∙ ap (λ p. cond (bytes_eq p q) (Some x.1) (get m q)) (sym same))
    ∙ (again (bytes_eq y.0 q) x.1 y.1 (get m q) ∙ sym (get_inserted m y.0 y.1 q))))

turned : (a b : Bool) (x y : List ℕ) (g : Option (List ℕ)) → (a ≡ true → b ≡ true → ⊥) → cond b (Some y) (cond a (Some x) g) ≡ cond a (Some x) (cond b (Some y) g)
turned true true x y g other = absurd (other refl refl)
turned true false x y g other = refl
turned false b x y g other = refl

-- at two paths
swapped : (m : AtPaths (List ℕ)) (x y : Entry) → (x.0 ≡ y.0 → ⊥) → insert (insert m x.0 x.1) y.0 y.1 ≡ insert (insert m y.0 y.1) x.0 x.1
swapped m x y other =
    at_paths _ _ (λ q. get_inserted (insert m x.0 x.1) y.0 y.1 q
    ∙ (ap (cond (bytes_eq y.0 q) (Some y.1)) (get_inserted m x.0 x.1 q)
    ∙ (turned (bytes_eq x.0 q) (bytes_eq y.0 q) x.1 y.1 (get m q) (λ e f. other (same_path x.0 q e ∙ sym (same_path y.0 q f)))
    ∙ sym (get_inserted (insert m y.0 y.1) x.0 x.1 q ∙ ap (cond (bytes_eq x.0 q) (Some x.1)) (get_inserted m y.0 y.1 q)))))

-- ---- in order

after_put : (x : Entry) (ys : List Entry) (m : AtPaths (List ℕ)) → after m (put_by path_of x ys) ≡ after (insert m x.0 x.1) ys
after_put x [] m = refl
after_put x (y ∷ ys) m = go (is_at_most x.0 y.0) refl (after_put x ys (insert m y.0 y.1))
  where
    other : is_at_most x.0 y.0 ≡ false → y.0 ≡ x.0 → ⊥
    other e same = true≢false (sym (ap is_le (tied_itself nat_list_cmp_total x.0)) ∙ (ap (is_at_most x.0) (sym same) ∙ e))

    go : (b : Bool) → is_at_most x.0 y.0 ≡ b → after (insert m y.0 y.1) (put_by path_of x ys) ≡ after (insert (insert m y.0 y.1) x.0 x.1) ys
        → after m (put_by path_of x (y ∷ ys)) ≡ after (insert m x.0 x.1) (y ∷ ys)
    go true e later = rw e refl
    go false e later = rw e (later ∙ ap (λ n. after n ys) (swapped m y x (other e)))

after_order : (es : List Entry) (m : AtPaths (List ℕ)) → after m (in_order path_of es) ≡ after m es
after_order [] m = refl
after_order (x ∷ es) m = after_put x (in_order path_of es) m ∙ after_order es (insert m x.0 x.1)

-- some of them in order
pub part_in_order : (before part : List Entry) → StandForSame (before ++ in_order path_of part) (before ++ part)
part_in_order before part rest =
    let f = λ (m : AtPaths (List ℕ)) (e : Entry). insert m e.0 e.1 in
    fold-append f empty (before ++ in_order path_of part) rest
    ∙ (ap (λ m. after m rest) (fold-append f empty before (in_order path_of part) ∙ (after_order part (after empty before) ∙ sym (fold-append f empty before part)))
    ∙ sym (fold-append f empty (before ++ part) rest))

-- ---- of each path the last

after_kept : (x : Entry) (es : List Entry) (m : AtPaths (List ℕ)) → after m (kept_from x es) ≡ after (insert m x.0 x.1) es
after_kept x [] m = refl
after_kept x (y ∷ es) m = go (bytes_eq y.0 x.0) refl (after_kept y es m) (after_kept y es (insert m x.0 x.1))
  where
    go : (b : Bool) → bytes_eq y.0 x.0 ≡ b → after m (kept_from y es) ≡ after (insert m y.0 y.1) es → after (insert m x.0 x.1) (kept_from y es) ≡ after (insert (insert m x.0 x.1) y.0 y.1) es
        → after m (kept_from x (y ∷ es)) ≡ after (insert m x.0 x.1) (y ∷ es)
    go true e one two = rw e (one ∙ ap (λ n. after n es) (sym (overwritten m x y (same_path y.0 x.0 e))))
    go false e one two = rw e two

after_all_kept : (es : List Entry) → after empty (kept es) ≡ after empty es
after_all_kept [] = refl
after_all_kept (x ∷ es) = after_kept x es empty

-- ---- they rise

-- none is less than the one before it
abbrev Climb : Entry → List Entry → Type 0
Climb x [] = Unit {0}
Climb x (y ∷ es) = (is_lt (slice_cmp nat_cmp y.0 x.0) ≡ false) × Climb y es

climbs : (x : Entry) (es : List Entry) → IsSortedBy (λ a b. is_lt (slice_cmp nat_cmp a.0 b.0)) (x ∷ es) → Climb x es
climbs x [] up = tt
climbs x (y ∷ es) up = (
  up 0 x (omega arith) (omega arith),
  climbs y es (λ k d low high. let e : suc k + 1 ≡ suc (k + 1) = omega arith in rw e at (up (suc k) d (omega arith) (omega (arith, high)))),
)

-- a path and one that is not less are the same, or the first is less
same_or_less : (p q : List ℕ) → is_lt (slice_cmp nat_cmp q p) ≡ false → (p ≡ q → ⊥) → IsLess p q
same_or_less p q up other = go (slice_cmp nat_cmp q p) refl
  where
    go : (o : Ordering) → slice_cmp nat_cmp q p ≡ o → IsLess p q
    go Less e = absurd (true≢false (sym (ap is_lt e) ∙ up))
    go Equal e = absurd (other (sym (slice_cmp-IsAntisymmetric nat_cmp-IsAntisymmetric q p e)))
    go Greater e = nat_list_cmp_total.antisymm p q ∙ ap ordering_reverse e

less_then : (p q r : List ℕ) → IsLess p q → is_lt (slice_cmp nat_cmp r q) ≡ false → IsLess p r
less_then p q r less up =
    elim (same_or_not q r) [
      | inl same ↦ subst (IsLess p) same less
      | inr other ↦ nat_list_cmp_total.trans p q r less (same_or_less q r up other)
    ]

below_kept : (p : List ℕ) (x : Entry) (es : List Entry) → IsLess p x.0 → Climb x es → below_all (slice_cmp nat_cmp) p (kept_from x es) ≡ true
below_kept p x [] less up = ap (λ r. is_lt r && true) less
below_kept p x (y ∷ es) less up = go (bytes_eq y.0 x.0) refl (below_kept p y es (less_then p x.0 y.0 less up.0) up.1)
  where
    go : (b : Bool) → bytes_eq y.0 x.0 ≡ b → below_all (slice_cmp nat_cmp) p (kept_from y es) ≡ true → below_all (slice_cmp nat_cmp) p (kept_from x (y ∷ es)) ≡ true
    go true e later = rw e later
    go false e later = rw e (ap (λ r. is_lt r && below_all (slice_cmp nat_cmp) p (kept_from y es)) less ∙ later)

rise_from : (x : Entry) (es : List Entry) → Climb x es → AreSorted (kept_from x es)
rise_from x [] up = refl
rise_from x (y ∷ es) up = go (bytes_eq y.0 x.0) refl (rise_from y es up.1)
  where
    go : (b : Bool) → bytes_eq y.0 x.0 ≡ b → AreSorted (kept_from y es) → AreSorted (kept_from x (y ∷ es))
    go true e later = rw e later
    go false e later =
        let less = same_or_less x.0 y.0 up.0 (λ same. true≢false (sym (path_itself y.0 x.0 (sym same)) ∙ e)) in
        rw e (ap (λ b. b && is_sorted (slice_cmp nat_cmp) (kept_from y es)) (below_kept x.0 y es less up.1) ∙ later)

all_rise : (es : List Entry) → IsSortedBy (λ a b. is_lt (slice_cmp nat_cmp a.0 b.0)) es → AreSorted (kept es)
all_rise [] up = refl
all_rise (x ∷ es) up = rise_from x es (climbs x es up)

pub kept_rise : (es : List Entry) → AreSorted (kept (in_order path_of es))
kept_rise es = all_rise (in_order path_of es) (order_is_stable path_of es).sorted

-- ---- and are the entries of a map

moved : (x : Entry) (es : List Entry) (m : AtPaths (List ℕ)) → below_all (slice_cmp nat_cmp) x.0 es ≡ true → after (insert m x.0 x.1) es ≡ insert (after m es) x.0 x.1
moved x [] m below = refl
moved x (y ∷ es) m below =
    let both = and_parts (is_lt (slice_cmp nat_cmp x.0 y.0)) (below_all (slice_cmp nat_cmp) x.0 es) below in
    ap (λ n. after n es) (swapped m x y (λ same. never_less x.0 (subst (IsLess x.0) (sym same) (less_of _ both.0)))) ∙ moved x es (insert m y.0 y.1) both.1

rising_after : (es : List Entry) → AreSorted es → after empty es ≡ from_entries es
rising_after [] up = refl
rising_after (x ∷ es) up =
    let both = and_parts (below_all (slice_cmp nat_cmp) x.0 es) (is_sorted (slice_cmp nat_cmp) es) up in
    moved x es empty both.0 ∙ ap (λ m. insert m x.0 x.1) (rising_after es both.1)

pub kept_values : (es : List Entry) → from_entries (kept (in_order path_of es)) ≡ values_after es
kept_values es =
    sym (rising_after (kept (in_order path_of es)) (kept_rise es)) ∙ (after_all_kept (in_order path_of es) ∙ after_order es empty)

pub kept_settings : (es last all : List Entry) (s : BTreeSet (String Global)) → last ≡ kept (in_order path_of es) → values_after es ≡ values_after all
    → sorted_settings last s ≡ record { values = values_after all; locks = locks_of s }
kept_settings es last all s is same =
    ap (λ (v : AtPaths (List ℕ)). record { values = v; locks = locks_of s }) (ap from_entries is ∙ (kept_values es ∙ same))

-- ---- a row that is pushed

pub pushed_row : (before rows : List (String Global × Vec ℕ Global)) (row : String Global × Vec ℕ Global) (s : BTreeSet (String Global)) → rows ≡ before ++ row ∷ []
    → settings_of_rows rows s ≡ with_value (settings_of_rows before s) (string_bytes row.0) row.1.items
pushed_row before rows row s is =
    ap (λ rs. settings_of_rows rs s) is
    ∙ ap (λ (v : AtPaths (List ℕ)). record { values = v; locks = locks_of s })
    (ap values_after (map-append (λ (e : String Global × Vec ℕ Global). (string_bytes e.0, e.1.items)) before (row ∷ []))
    ∙ fold-append (λ (m : AtPaths (List ℕ)) (e : Entry). insert m e.0 e.1) empty (value_entries before) ((string_bytes row.0, row.1.items) ∷ []))

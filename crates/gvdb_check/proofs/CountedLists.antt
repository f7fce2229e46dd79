-- Lists that together hold as many numbers as there are items with a parent: no child is missing.
use Rattle.std.proofs.Common.{ℕ, zero, suc, ◌+◌, ◌<◌, ◌≤◌, ◌≡◌, ◌⊎◌, ◌||◌, Bool, true, false, List, [], ◌∷◌, length, Option, Some, None, refl, sym, ◌∙◌, ap, subst, arith, inl, inr, eqb, ⊎_elim}
use Rattle.std.specs.Prelude.{◌==◌}
use Rattle.std.specs.List.{IsDistinct, list_any}
use Rattle.std.proofs.lemmas.Map.Steps.{length-le_from_distinct_below}
use Rattle.std.proofs.lemmas.Bool.{eqb-true, false_from_ne_true}
use Rattle.std.proofs.lemmas.Option.{none-some, same_Some}
use Rattle.dconf_model.proofs.ParentLaws.{all_other, by_bool}
use Rattle.dconf_model.specs.Table.{Table, item, item_count, list_kind}
use Rattle.dconf_model.specs.Sound.{KeepsAll, list_length, listed}
use Rattle.dconf_model.specs.Sound.Rule.{lists}
use Rattle.gvdb_check.specs.ListNumbers.{IsListed}
use Rattle.gvdb_check.specs.Counted.{HasListOnceIfAny, ListsOnce, found_count, listed_count, top_count}
use Rattle.gvdb_check.proofs.Below.{below_next}

-- ---- items that were found, each for a reason

record AreFound (t : Table) (Reason : ℕ → Type 0) (xs : List ℕ) : Type 0 where
  distinct : IsDistinct eqb xs
  counted : (q : ℕ) → list_any (eqb q) xs ≡ true → q < item_count t
  reason : (q : ℕ) → list_any (eqb q) xs ≡ true → Reason q

more_distinct : (q : ℕ) (xs : List ℕ) → list_any (eqb q) xs ≡ false → IsDistinct eqb xs → IsDistinct eqb (q ∷ xs)
unfolding IsDistinct
more_distinct q xs other distinct = (all_other q xs other, distinct)

-- what holds of the new number and of each that was there holds of each
of_each : (P : ℕ → Type 0) (q : ℕ) (xs : List ℕ) → P q → ((r : ℕ) → list_any (eqb r) xs ≡ true → P r) → (r : ℕ) → list_any (eqb r) (q ∷ xs) ≡ true → P r
of_each P q xs here there r e =
    by_bool (eqb r q) (P r)
    (λ same. subst P (sym (eqb-true r q same)) here)
    (λ other. there r (sym (ap (λ b. b || list_any (eqb r) xs) other) ∙ e))

one_more : (t : Table) (Old Reason : ℕ → Type 0) (xs : List ℕ) (q : ℕ) → AreFound t Old xs → q < item_count t → (Old q → ⊥) → Reason q → ((r : ℕ) → Old r → Reason r) → AreFound t Reason (q ∷ xs)
one_more t Old Reason xs q found counted fresh here kept = record {
  distinct = more_distinct q xs (false_from_ne_true _ (λ e. fresh (found.reason q e))) found.distinct;
  counted = of_each (λ r. r < item_count t) q xs counted found.counted;
  reason = of_each Reason q xs here (λ r e. kept r (found.reason r e));
}

for_reasons : (t : Table) (Old Reason : ℕ → Type 0) (xs : List ℕ) → ((r : ℕ) → Old r → Reason r) → AreFound t Old xs → AreFound t Reason xs
for_reasons t Old Reason xs kept found = record { distinct = found.distinct; counted = found.counted; reason = λ q e. kept q (found.reason q e) }

-- ---- the reasons: an item below m has no parent, or is in its parent's list, and the parent is below i

abbrev IsReason : Table → ℕ → ℕ → ℕ → Type 0
IsReason t i m q = (((item t q).parent ≡ None) × (q < m)) ⊎ ((p : ℕ) × ((item t q).parent ≡ Some p) × (p < i) × IsListed t p q)

later : (t : Table) (i m j l q : ℕ) → i ≤ j → m ≤ l → IsReason t i m q → IsReason t j l q
later t i m j l q i_j m_l (inl top) = inl (top.0, omega (arith, top.1, m_l))
later t i m j l q i_j m_l (inr child) = inr (child.0, child.1, omega (arith, child.2, i_j), child.3)

child_is_new : (t : Table) (i m q : ℕ) → (item t q).parent ≡ Some i → IsReason t i m q → ⊥
child_is_new t i m q up (inl top) = none-some i (sym top.0 ∙ up)
child_is_new t i m q up (inr child) = omega (arith, same_Some child.0 i (sym child.1 ∙ up), child.2)

top_is_new : (t : Table) (i j : ℕ) → (item t i).parent ≡ None → IsReason t j i i → ⊥
top_is_new t i j top (inl lower) = omega (arith, lower.1)
top_is_new t i j top (inr child) = none-some child.0 (sym top ∙ child.1)

-- ---- the numbers of a list

abbrev IsAmong : Table → ℕ → ℕ → ℕ → Type 0
IsAmong t i n q = (k : ℕ) × (k < n) × (listed t i k ≡ q)

abbrev IsEarlier : Table → ℕ → ℕ → ℕ → Type 0
IsEarlier t i n q = IsReason t i i q ⊎ IsAmong t i n q

numbers_found : (t : Table) (i : ℕ) (xs : List ℕ) → ListsOnce t i → AreFound t (IsReason t i i) xs → (n : ℕ) → n ≤ list_length t i → (ys : List ℕ) × (length ys ≡ n + length xs) × AreFound t (IsEarlier t i n) ys
numbers_found t i xs list found zero le = (xs, omega arith, for_reasons t (IsReason t i i) (IsEarlier t i zero) xs (λ r old. inl old) found)
numbers_found t i xs list found (suc n) le =
    let inside : n < list_length t i = omega (arith, le) in
    let child = list.children_alone n inside in
    let r = numbers_found t i xs list found n (omega (arith, le)) in (
      listed t i n ∷ r.0,
      omega (arith, r.1),
      one_more t (IsEarlier t i n) (IsEarlier t i (suc n)) r.0 (listed t i n) r.2 child.0
          (⊎_elim (child_is_new t i i (listed t i n) child.1) (λ (seen : IsAmong t i n (listed t i n)). omega (arith, seen.1, list.once seen.0 n (omega (arith, seen.1, inside)) inside seen.2)))
          (inr (n, omega arith, refl))
          (λ q. ⊎_elim (λ (old : IsReason t i i q). inl old) (λ (seen : IsAmong t i n q). inr (seen.0, omega (arith, seen.1), seen.2))),
    )

list_found : (t : Table) (i : ℕ) (xs : List ℕ) → ListsOnce t i → AreFound t (IsReason t i i) xs → (ys : List ℕ) × (length ys ≡ list_length t i + length xs) × AreFound t (IsReason t (i + 1) i) ys
list_found t i xs list found =
    let r = numbers_found t i xs list found (list_length t i) (omega arith) in (
      r.0,
      r.1,
      for_reasons t (IsEarlier t i (list_length t i)) (IsReason t (i + 1) i) r.0 (λ q.
          ⊎_elim (later t i i (i + 1) i q (omega arith) (omega arith))
          (λ (seen : IsAmong t i (list_length t i) q). inr (i, subst (λ (x : ℕ). (item t x).parent ≡ Some i) seen.2 (list.children_alone seen.0 seen.1).1, omega arith, seen))) r.2,
    )

-- ---- the next item

in_list_found : (t : Table) (i : ℕ) (xs : List ℕ) (is_list : Bool) → ((item t i).kind == list_kind) ≡ is_list → HasListOnceIfAny t i → AreFound t (IsReason t i i) xs
    → (ys : List ℕ) × (length ys ≡ listed_count is_list t i + length xs) × AreFound t (IsReason t (i + 1) i) ys
in_list_found t i xs true e list found = list_found t i xs (list (eqb-true (item t i).kind list_kind e)) found
in_list_found t i xs false e list found = (xs, omega arith, for_reasons t (IsReason t i i) (IsReason t (i + 1) i) xs (λ q. later t i i (i + 1) i q (omega arith) (omega arith)) found)

itself_found : (t : Table) (i : ℕ) (xs : List ℕ) (up : Option ℕ) → (item t i).parent ≡ up → i < item_count t → AreFound t (IsReason t (i + 1) i) xs
    → (ys : List ℕ) × (length ys ≡ top_count up + length xs) × AreFound t (IsReason t (i + 1) (i + 1)) ys
itself_found t i xs None top counted found = (
  i ∷ xs,
  omega arith,
  one_more t (IsReason t (i + 1) i) (IsReason t (i + 1) (i + 1)) xs i found counted (top_is_new t i (i + 1) top) (inl (top, omega arith)) (λ q. later t (i + 1) i (i + 1) (i + 1) q (omega arith) (omega arith)),
)
itself_found t i xs (Some p) up counted found = (xs, omega arith, for_reasons t (IsReason t (i + 1) i) (IsReason t (i + 1) (i + 1)) xs (λ q. later t (i + 1) i (i + 1) (i + 1) q (omega arith) (omega arith)) found)

-- ---- all of them

-- so many items were found by those before item i, whose lists hold children once, and so many are left
pub record AreCounted (t : Table) (i left : ℕ) : Type 0 where
  xs : List ℕ
  found : AreFound t (IsReason t i i) xs
  all : length xs + left ≡ item_count t
  once : (j : ℕ) → j < i → HasListOnceIfAny t j

pub none_counted : (t : Table) (left : ℕ) → left ≡ item_count t → AreCounted t 0 left
unfolding IsDistinct
none_counted t left e = record {
  xs = [];
  found = record { distinct = tt; counted = λ q e. let bad : false ≡ true = e in cc; reason = λ q e. let bad : false ≡ true = e in cc };
  all = omega (arith, e);
  once = λ j lt. absurd (omega (arith, lt));
}

pub one_more_counted : (t : Table) (i left n fewer : ℕ) → AreCounted t i left → i < item_count t → HasListOnceIfAny t i × (n ≡ found_count t i) → fewer + n ≡ left → AreCounted t (i + 1) fewer
one_more_counted t i left n fewer before counted list less =
    let inner = in_list_found t i before.xs ((item t i).kind == list_kind) refl list.0 before.found in
    let own = itself_found t i inner.0 (item t i).parent refl counted inner.2 in
    record {
      xs = own.0;
      found = own.2;
      all = omega (arith, own.1, inner.1, list.1, before.all, less);
      once = below_next (HasListOnceIfAny t) i before.once list.0;
    }

-- as many were found as there are items: so each was
each_found : (t : Table) (n : ℕ) (xs : List ℕ) (q : ℕ) → AreFound t (IsReason t n n) xs → length xs ≡ item_count t → q < item_count t → list_any (eqb q) xs ≡ true
each_found t n xs q found all counted =
    by_bool (list_any (eqb q) xs) (list_any (eqb q) xs ≡ true) (λ yes. yes)
    (λ other.
    let le : length (q ∷ xs) ≤ item_count t = length-le_from_distinct_below (q ∷ xs) (item_count t) (more_distinct q xs other found.distinct) (of_each (λ r. r < item_count t) q xs counted found.counted) in
    absurd (omega (arith, le, all)))

its_parent_lists : (t : Table) (i n j : ℕ) → (item t j).parent ≡ Some i → IsReason t n n j → IsListed t i j
its_parent_lists t i n j up (inl top) = absurd (none-some i (sym top.0 ∙ up))
its_parent_lists t i n j up (inr child) = subst (λ (p : ℕ). IsListed t p j) (same_Some child.0 i (sym child.1 ∙ up)) child.3

pub lists_kept : (t : Table) (n left : ℕ) → AreCounted t n left → left ≡ 0 → item_count t ≤ n → KeepsAll t lists
lists_kept t n left are none_left end i counted of_kind =
    let list = are.once i (omega (arith, counted, end)) of_kind in
    let all : length are.xs ≡ item_count t = omega (arith, are.all, none_left) in
    record {
      children_alone = list.children_alone;
      each_child = λ j child. its_parent_lists t i n j child.1 (are.found.reason j (each_found t n are.xs j are.found all child.0));
      once = list.once;
      empty_at_root = list.empty_at_root;
    }

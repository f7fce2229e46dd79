-- Where the parts of a database end: no end lies before an earlier one, and the lists are one run of all children.
use Rattle.std.proofs.Common.{◌≡◌, ◌<◌, ◌≤◌, ◌+◌, ◌*◌, ℕ, zero, suc, Bool, cond, eqb, length, Option, Some, ap, ◌∙◌, subst, arith, ⊎_elim, ne_eqb, inl, inr}
use Rattle.std.proofs.lemmas.Bool.{cases_lt}
use Rattle.gv_model.specs.Layout.{round_up}
use Rattle.dconf_model.specs.Table.{list_kind}
use Rattle.dconf_model.specs.Entries.{Entries, EachEntry, AreEntries, IsSpelled, IsRootEntry, Children, AreChildren}
use Rattle.dconf_model.specs.Plans.{keys_end, lists_end, list_size, locks_end, size_of_table}
use Rattle.dconf_model.proofs.ParentLaws.{by_bool}
use Rattle.dconf_model.proofs.PlanLists.{EndsAt, ends_at, first_is_all}

pub not_below : (n : ℕ) → n ≤ round_up 4 n
unfolding round_up
not_below n = omega arith

no_lower : (m n : ℕ) → m ≤ n → round_up 4 m ≤ round_up 4 n
unfolding round_up
no_lower m n le = omega (arith, le)

-- ---- keys

pub keys_rise : (e : Entries) (at n : ℕ) → at ≤ keys_end e at n
keys_rise e at zero = omega arith
keys_rise e at (suc n) = let le = keys_rise e at n in omega (arith, le)

-- after more items they end later
pub keys_grow : (e : Entries) (at n m : ℕ) → n ≤ m → keys_end e at n ≤ keys_end e at m
keys_grow e at n zero le = subst (λ (k : ℕ). keys_end e at k ≤ at) (let none : 0 ≡ n = omega (arith, le) in none) (omega arith)
keys_grow e at n (suc m) le =
    ⊎_elim
    (λ (last : m < n). subst (λ (k : ℕ). keys_end e at n ≤ keys_end e at k) (let same : n ≡ suc m = omega (arith, le, last) in same) (omega arith))
    (λ (before : n ≤ m). let grown = keys_grow e at n m before in omega (arith, grown))
    (cases_lt m n)

pub keys_next : (e : Entries) (at n : ℕ) → keys_end e at (n + 1) ≡ keys_end e at n + length (e.entry n).key
keys_next e at n = ap (λ (k : ℕ). keys_end e at k) (let next : n + 1 ≡ suc n = omega arith in next)

-- ---- lists

list_end : (e : Entries) (c : Children) (at n : ℕ) → (e.entry n).kind ≡ list_kind → lists_end e c at (suc n) ≡ round_up 4 (lists_end e c at n) + list_size c n
list_end e c at n is = ap (λ (k : ℕ). cond (eqb k list_kind) (round_up 4 (lists_end e c at n) + list_size c n) (lists_end e c at n)) is

one_list_more : (e : Entries) (c : Children) (at n : ℕ) → lists_end e c at n ≤ lists_end e c at (suc n)
one_list_more e c at n =
    by_bool (eqb (e.entry n).kind list_kind) (lists_end e c at n ≤ lists_end e c at (suc n))
    (λ list.
    let le = not_below (lists_end e c at n) in
    let is : lists_end e c at (suc n) ≡ round_up 4 (lists_end e c at n) + list_size c n = ap (λ (b : Bool). cond b (round_up 4 (lists_end e c at n) + list_size c n) (lists_end e c at n)) list in
    omega (arith, le, is))
    (λ other.
    let is : lists_end e c at (suc n) ≡ lists_end e c at n = ap (λ (b : Bool). cond b (round_up 4 (lists_end e c at n) + list_size c n) (lists_end e c at n)) other in
    omega (arith, is))

pub lists_rise : (e : Entries) (c : Children) (at n : ℕ) → at ≤ lists_end e c at n
lists_rise e c at zero = omega arith
lists_rise e c at (suc n) = let le = lists_rise e c at n in let more = one_list_more e c at n in omega (arith, le, more)

-- after a list, they end at the next multiple of 4 or later
aligned_end : (e : Entries) (c : Children) (at j n : ℕ) → (e.entry j).kind ≡ list_kind → j < n → round_up 4 at ≤ lists_end e c at n
aligned_end e c at j zero list l = absurd (omega (arith, l))
aligned_end e c at j (suc n) list l =
    ⊎_elim
    (λ (early : j < n). let le = aligned_end e c at j n list early in let more = one_list_more e c at n in omega (arith, le, more))
    (λ (ge : n ≤ j).
    let same : j ≡ n = omega (arith, l, ge) in
    let is = list_end e c at n (subst (λ (k : ℕ). (e.entry k).kind ≡ list_kind) same list) in
    let le = no_lower at (lists_end e c at n) (lists_rise e c at n) in
    omega (arith, is, le))
    (cases_lt j n)

directory_within : (e : Entries) (i p : ℕ) (o : Option ℕ) → IsSpelled e i o → o ≡ Some p → p < e.count
directory_within e i p o s is = (subst (λ (x : Option ℕ). IsSpelled e i x) is s).0

-- after the last list are all children
pub all_children : (e : Entries) (c : Children) → AreEntries e → AreChildren e c → c.first e.count ≡ c.count
all_children e c entries are =
    first_is_all c.count (e.count + 1) c.directory c.first are.firsts e.count (omega arith)
    (λ k here. let child = are.children k here in directory_within e (c.child k) (c.directory k) (e.entry (c.child k)).parent (entries.each (c.child k) child.0).spelled child.1)

whole_run : (e : Entries) (c : Children) (at : ℕ) → c.first e.count ≡ c.count → round_up 4 at ≤ lists_end e c at e.count → EndsAt e c at e.count → lists_end e c at e.count ≡ round_up 4 at + 4 * c.count
whole_run e c at all above (inl a) =
    let le = not_below at in
    let is = a.0 in
    let none = a.1 in
    omega (arith, above, is, none, all, le)
whole_run e c at all above (inr b) = b ∙ ap (λ (n : ℕ). round_up 4 at + 4 * n) all

-- where there is a list, and each directory is an entry, the lists are one run of all children
pub lists_end_is : (e : Entries) (c : Children) (at j : ℕ) → EachEntry e (IsRootEntry e) → AreChildren e c → ((i p : ℕ) → i < e.count → (e.entry i).parent ≡ Some p → p < e.count) → j < e.count → (e.entry j).kind ≡ list_kind → lists_end e c at e.count ≡ round_up 4 at + 4 * c.count
lists_end_is e c at j root are parents here list =
    whole_run e c at
    (first_is_all c.count (e.count + 1) c.directory c.first are.firsts e.count (omega arith)
    (λ k l. let child = are.children k l in parents (c.child k) (c.directory k) child.0 child.1))
    (aligned_end e c at j e.count list here) (ends_at e c at root are e.count (omega arith))

-- where there is a list, the lists are one run of all children
pub all_lists_end : (e : Entries) (c : Children) (at j : ℕ) → AreEntries e → EachEntry e (IsRootEntry e) → AreChildren e c → j < e.count → (e.entry j).kind ≡ list_kind → lists_end e c at e.count ≡ round_up 4 at + 4 * c.count
all_lists_end e c at j entries root are here list =
    whole_run e c at (all_children e c entries are) (aligned_end e c at j e.count list here) (ends_at e c at root are e.count (omega arith))

-- ---- the table of locks

pub locks_rise : (l : Entries) (at : ℕ) → at ≤ locks_end l at
locks_rise l at =
    by_bool (eqb l.count 0) (at ≤ locks_end l at)
    (λ none.
    let is : locks_end l at ≡ at = ap (λ (b : Bool). cond b at (keys_end l (round_up 4 at + size_of_table l.count) l.count)) none in
    omega (arith, is))
    (λ some.
    let is : locks_end l at ≡ keys_end l (round_up 4 at + size_of_table l.count) l.count = ap (λ (b : Bool). cond b at (keys_end l (round_up 4 at + size_of_table l.count) l.count)) some in
    let le = not_below at in
    let more = keys_rise l (round_up 4 at + size_of_table l.count) l.count in
    let far : round_up 4 at ≤ round_up 4 at + size_of_table l.count = omega arith in
    omega (arith, is, le, more, far))

-- where there are locks, and where there are none
pub some_locks_end : (l : Entries) (at : ℕ) → 0 < l.count → locks_end l at ≡ keys_end l (round_up 4 at + size_of_table l.count) l.count
some_locks_end l at some =
    ap (λ (b : Bool). cond b at (keys_end l (round_up 4 at + size_of_table l.count) l.count)) (ne_eqb l.count 0 (omega (arith, some)))

pub no_locks_end : (l : Entries) (at : ℕ) → l.count ≡ 0 → locks_end l at ≡ at
no_locks_end l at none = ap (λ (n : ℕ). cond (eqb n 0) at (keys_end l (round_up 4 at + size_of_table l.count) l.count)) none

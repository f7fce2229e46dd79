-- A map has one length: two plans of it have the same entries, lists, values and locks.
use Rattle.std.proofs.Common.{◌≡◌, ◌<◌, ◌≤◌, ◌+◌, ◌-◌, ◌*◌, ◌++◌, ℕ, zero, suc, Bool, cond, eqb, List, [], ◌∷◌, length, Option, Some, None, refl, sym, ap, ◌∙◌, subst, arith}
use Rattle.std.specs.FinMap.{get}
use Rattle.std.proofs.lemmas.Bool.{eqb-true}
use Rattle.std.proofs.lemmas.Option.{same_Some}
use Rattle.gv_model.specs.Layout.{round_up}
use Rattle.dconf_model.specs.Table.{value_kind, list_kind}
use Rattle.dconf_model.specs.Settings.{Settings}
use Rattle.dconf_model.specs.Entries.{Entries, EachEntry, IsSpelled, Children, AreChildren}
use Rattle.dconf_model.specs.Plans.{Plan, IsPlanOf, IsRootName, IsLockName, size_of_table, keys_end, lists_end, list_size, locks_end, item_values, all_values, nothing_bytes, once_each, values_end, root_end, length_of, OneLength}
use Rattle.dconf_model.proofs.ParentLaws.{by_bool}
use Rattle.dconf_model.proofs.OneOrder.{no_more_than_places, as_many, same_names}
use Rattle.dconf_model.proofs.NameParts.{AreSame, are_same}

-- ---- the children of each directory are as many

child_there : (e f : Entries) → AreSame e f → (p j : ℕ) → j < e.count → (e.entry j).parent ≡ Some p → (j < f.count) × ((f.entry j).parent ≡ Some p)
child_there e f same p j here is = let c = same.counted in (omega (arith, here, c), sym (same.parent j here) ∙ is)

no_more_children : (e f : Entries) (c d : Children) → AreSame e f → AreChildren e c → AreChildren f d → (g : ℕ) → g ≤ e.count → c.first g ≤ d.first g
no_more_children e f c d same ec fd g le =
    let counted = same.counted in
    no_more_than_places (d.first g) (c.first g) (λ k l. d.child l ≡ c.child k)
    (λ k here.
    let w = ec.firsts.within g (omega (arith, le)) in
    let inside : k < c.count = omega (arith, here, w) in
    let below : c.directory k < g = (ec.firsts.lesser g k (omega (arith, le)) inside).0 here in
    let child = ec.children k inside in
    let other = child_there e f same (c.directory k) (c.child k) child.0 child.1 in
    let at = fd.each (c.child k) (c.directory k) other in
    let parent : (f.entry (c.child k)).parent ≡ Some (d.directory at.0) = subst (λ (j : ℕ). (f.entry j).parent ≡ Some (d.directory at.0)) at.2 (fd.children at.0 at.1).1 in
    let one : d.directory at.0 ≡ c.directory k = same_Some (d.directory at.0) (c.directory k) (sym parent ∙ other.1) in
    (at.0, (fd.firsts.lesser g at.0 (omega (arith, le, counted)) at.1).1 (omega (arith, one, below)), at.2))
    (λ k m l lk lm a b.
    let w = ec.firsts.within g (omega (arith, le)) in
    ec.once k m (omega (arith, lk, w)) (omega (arith, lm, w)) (sym a ∙ b))

other_way : (e f : Entries) → AreSame e f → AreSame f e
other_way e f same =
    let c = same.counted in
    record {
      counted = sym c;
      key = λ i here. sym (same.key i (omega (arith, here, c)));
      kind = λ i here. sym (same.kind i (omega (arith, here, c)));
      parent = λ i here. sym (same.parent i (omega (arith, here, c)));
    }

same_firsts : (e f : Entries) (c d : Children) → AreSame e f → AreChildren e c → AreChildren f d → (g : ℕ) → g ≤ e.count → c.first g ≡ d.first g
same_firsts e f c d same ec fd g le =
    let counted = same.counted in
    let a = no_more_children e f c d same ec fd g le in
    let b = no_more_children f e d c (other_way e f same) fd ec g (omega (arith, le, counted)) in
    omega (arith, a, b)

-- ---- the parts end at the same places

same_keys_end : (e f : Entries) (at i : ℕ) → i ≤ e.count → EachEntry e (λ j. (e.entry j).key ≡ (f.entry j).key) → keys_end e at i ≡ keys_end f at i
same_keys_end e f at zero le same = refl
same_keys_end e f at (suc i) le same =
    ap (λ (n : ℕ). n + length (e.entry i).key) (same_keys_end e f at i (omega (arith, le)) same)
    ∙ ap (λ (k : List ℕ). keys_end f at i + length k) (same i (omega (arith, le)))

same_lists_end : (e f : Entries) (c d : Children) (at i : ℕ) → i ≤ e.count → AreSame e f → ((g : ℕ) → g ≤ e.count → c.first g ≡ d.first g) → lists_end e c at i ≡ lists_end f d at i
same_lists_end e f c d at zero le same firsts = refl
same_lists_end e f c d at (suc i) le same firsts =
    let before = same_lists_end e f c d at i (omega (arith, le)) same firsts in
    let size : list_size c i ≡ list_size d i =
    ap (λ (n : ℕ). 4 * (n - c.first i)) (firsts (i + 1) (omega (arith, le))) ∙ ap (λ (n : ℕ). 4 * (d.first (i + 1) - n)) (firsts i (omega (arith, le))) in
    ap (λ (k : ℕ). cond (eqb k list_kind) (round_up 4 (lists_end e c at i) + list_size c i) (lists_end e c at i)) (same.kind i (omega (arith, le)))
    ∙ (ap (λ (n : ℕ). cond (eqb (f.entry i).kind list_kind) (round_up 4 n + list_size c i) n) before
    ∙ ap (λ (n : ℕ). cond (eqb (f.entry i).kind list_kind) (round_up 4 (lists_end f d at i) + n) (lists_end f d at i)) size)

-- ---- the values are the same

item_value : (e f : Entries) (v w : ℕ → List ℕ) (i : ℕ) → (e.entry i).kind ≡ (f.entry i).kind → ((e.entry i).kind ≡ value_kind → v i ≡ w i) → cond (eqb (e.entry i).kind value_kind) (v i ∷ []) [] ≡ cond (eqb (f.entry i).kind value_kind) (w i ∷ []) []
item_value e f v w i kind same =
    by_bool (eqb (e.entry i).kind value_kind) (cond (eqb (e.entry i).kind value_kind) (v i ∷ []) [] ≡ cond (eqb (f.entry i).kind value_kind) (w i ∷ []) [])
    (λ is.
    ap (λ (x : List ℕ). cond (eqb (e.entry i).kind value_kind) (x ∷ []) []) (same (eqb-true (e.entry i).kind value_kind is))
    ∙ ap (λ (k : ℕ). cond (eqb k value_kind) (w i ∷ []) []) kind)
    (λ other.
    ap (λ (b : Bool). cond b (v i ∷ []) []) other
    ∙ sym (ap (λ (b : Bool). cond b (w i ∷ []) []) (sym (ap (λ (k : ℕ). eqb k value_kind) kind) ∙ other)))

same_item_values : (p q : Plan) (i : ℕ) → i ≤ p.root.count → AreSame p.root q.root → ((j : ℕ) → j < p.root.count → (p.root.entry j).kind ≡ value_kind → p.value j ≡ q.value j) → item_values p i ≡ item_values q i
same_item_values p q zero le same values = refl
same_item_values p q (suc i) le same values =
    ap (λ (l : List (List ℕ)). l ++ cond (eqb (p.root.entry i).kind value_kind) (p.value i ∷ []) []) (same_item_values p q i (omega (arith, le)) same values)
    ∙ ap (λ (l : List (List ℕ)). item_values q i ++ l)
    (item_value p.root q.root p.value q.value i (same.kind i (omega (arith, le))) (values i (omega (arith, le))))

-- ---- two plans of a map

lock_key : (e : Entries) (i : ℕ) (o : Option ℕ) → o ≡ None → IsSpelled e i o → (e.entry i).name ≡ (e.entry i).key
lock_key e i None is spelled = spelled
lock_key e i (Some p) is spelled = let bad : Some p ≡ None = is in cc

module _ (s : Settings) (p q : Plan) (is : IsPlanOf s p) (also : IsPlanOf s q) where
  counted : p.root.count ≡ q.root.count
  counted = as_many (IsRootName s) p.root q.root is.names also.names is.entries.once also.entries.once

  same : AreSame p.root q.root
  same =
      are_same p.root q.root is.entries also.entries is.places also.places counted
      (λ i here. same_names (IsRootName s) p.root q.root is.names also.names is.entries.once also.entries.once counted p.root.count i here here)

  names : EachEntry p.root (λ i. (p.root.entry i).name ≡ (q.root.entry i).name)
  names i here = same_names (IsRootName s) p.root q.root is.names also.names is.entries.once also.entries.once counted p.root.count i here here

  locks_counted : p.locks.count ≡ q.locks.count
  locks_counted = as_many (IsLockName s) p.locks q.locks is.lock_names also.lock_names is.lock_entries.once also.lock_entries.once

  lock_keys : EachEntry p.locks (λ i. (p.locks.entry i).key ≡ (q.locks.entry i).key)
  lock_keys i here =
      let there : i < q.locks.count = let c = locks_counted in omega (arith, here, c) in
      sym (lock_key p.locks i (p.locks.entry i).parent (is.locks i here).whole (is.lock_entries.each i here).spelled)
      ∙ (same_names (IsLockName s) p.locks q.locks is.lock_names also.lock_names is.lock_entries.once also.lock_entries.once locks_counted p.locks.count i here here
      ∙ lock_key q.locks i (q.locks.entry i).parent (also.locks i there).whole (also.lock_entries.each i there).spelled)

  values : (j : ℕ) → j < p.root.count → (p.root.entry j).kind ≡ value_kind → p.value j ≡ q.value j
  values j here kind =
      let there : j < q.root.count = let c = counted in omega (arith, here, c) in
      same_Some (p.value j) (q.value j)
      (sym (is.values j here kind) ∙ (ap (λ (n : List ℕ). get s.values n) (names j here) ∙ also.values j there (sym (same.kind j here) ∙ kind)))

  same_root_end : root_end p ≡ root_end q
  same_root_end =
      let keys : keys_end p.root (24 + size_of_table p.root.count) p.root.count ≡ keys_end q.root (24 + size_of_table q.root.count) q.root.count =
      same_keys_end p.root q.root (24 + size_of_table p.root.count) p.root.count (omega arith) same.key
      ∙ ap (λ (n : ℕ). keys_end q.root (24 + size_of_table n) n) counted in
      same_lists_end p.root q.root p.children q.children (keys_end p.root (24 + size_of_table p.root.count) p.root.count) p.root.count (omega arith) same
      (same_firsts p.root q.root p.children q.children same is.children also.children)
      ∙ (ap (λ (at : ℕ). lists_end q.root q.children at p.root.count) keys
      ∙ ap (λ (n : ℕ). lists_end q.root q.children (keys_end q.root (24 + size_of_table q.root.count) q.root.count) n) counted)

  same_locks_end : (at : ℕ) → locks_end p.locks at ≡ locks_end q.locks at
  same_locks_end at =
      ap (λ (n : ℕ). cond (eqb p.locks.count 0) at n) (same_keys_end p.locks q.locks (round_up 4 at + size_of_table p.locks.count) p.locks.count (omega arith) lock_keys)
      ∙ ap (λ (n : ℕ). cond (eqb n 0) at (keys_end q.locks (round_up 4 at + size_of_table n) n)) locks_counted

  same_values : all_values p ≡ all_values q
  same_values =
      ap (λ (l : List (List ℕ)). l ++ cond (eqb p.locks.count 0) [] (nothing_bytes ∷ [])) (same_item_values p q p.root.count (omega arith) same values)
      ∙ (ap (λ (n : ℕ). item_values q n ++ cond (eqb p.locks.count 0) [] (nothing_bytes ∷ [])) counted
      ∙ ap (λ (n : ℕ). item_values q q.root.count ++ cond (eqb n 0) [] (nothing_bytes ∷ [])) locks_counted)

  same_length : length_of p ≡ length_of q
  same_length =
      ap (λ (at : ℕ). values_end (locks_end p.locks at) (once_each (all_values p))) same_root_end
      ∙ (ap (λ (at : ℕ). values_end at (once_each (all_values p))) (same_locks_end (root_end q))
      ∙ ap (λ (vs : List (List ℕ)). values_end (locks_end q.locks (root_end q)) (once_each vs)) same_values)

pub one_length : OneLength
one_length s m n has have = sym has.2 ∙ (same_length s has.0 have.0 has.1 have.1 ∙ have.2)

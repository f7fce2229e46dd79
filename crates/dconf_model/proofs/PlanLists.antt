-- The lists of a root table come one after another.
use Rattle.std.proofs.Common.{◌≡◌, ◌≢◌, ◌<◌, ◌≤◌, ◌+◌, ◌-◌, ◌*◌, ◌⊎◌, ℕ, zero, suc, Bool, true, false, cond, eqb, Option, Some, refl, sym, ap, ◌∙◌, subst, arith, inl, inr, ⊎_elim}
use Rattle.std.proofs.lemmas.Bool.{cases_lt}
use Rattle.gv_model.specs.Layout.{round_up}
use Rattle.dconf_model.specs.Table.{list_kind}
use Rattle.dconf_model.specs.Entries.{Entries, EachEntry, EntryHasParent, IsRootEntry, Children, AreChildren, AreFirsts}
use Rattle.dconf_model.specs.Plans.{lists_end, list_size}
use Rattle.dconf_model.proofs.ParentLaws.{by_bool}
use Rattle.dconf_model.proofs.LaidGroups.{first_is_zero, firsts_rise, group_is}

-- after all groups are all members
pub first_is_all : (count groups : ℕ) (group first : ℕ → ℕ) → AreFirsts count groups group first → (g : ℕ) → g < groups → ((i : ℕ) → i < count → group i < g) → first g ≡ count
first_is_all count groups group first f g some each =
    ⊎_elim (λ (l : first g < count). let still = (f.lesser g (first g) some l).1 (each (first g) l) in absurd (omega (arith, still)))
    (λ (le : count ≤ first g). let w = f.within g some in let e : first g ≡ count = omega (arith, le, w) in e) (cases_lt (first g) count)

parent_is_list : (e : Entries) (j p : ℕ) (o : Option ℕ) → o ≡ Some p → EntryHasParent e j o → (e.entry p).kind ≡ list_kind
parent_is_list e j p o is has_parent = (subst (λ (x : Option ℕ). EntryHasParent e j x) is has_parent).0

-- what is no directory has no children
pub no_children : (e : Entries) (c : Children) (i : ℕ) → EachEntry e (IsRootEntry e) → AreChildren e c → i < e.count → (e.entry i).kind ≢ list_kind → c.first (i + 1) ≡ c.first i
no_children e c i root are here other =
    let rise = firsts_rise c.count (e.count + 1) c.directory c.first are.firsts i (omega (arith, here)) in
    ⊎_elim
    (λ (l : c.first i < c.first (i + 1)).
    let g = group_is c.count (e.count + 1) c.directory c.first are.firsts i (c.first i) (omega (arith, here)) (omega arith) l in
    let child = are.children (c.first i) g.0 in
    let list : (e.entry (c.directory (c.first i))).kind ≡ list_kind = parent_is_list e (c.child (c.first i)) (c.directory (c.first i)) (e.entry (c.child (c.first i))).parent child.1 (root (c.child (c.first i)) child.0).has_parent in
    absurd (other (subst (λ (d : ℕ). (e.entry d).kind ≡ list_kind) g.1 list)))
    (λ (le : c.first (i + 1) ≤ c.first i). let same : c.first (i + 1) ≡ c.first i = omega (arith, le, rise) in same) (cases_lt (c.first i) (c.first (i + 1)))

-- the lists of the first items end where they began, or are all that occurs from the next multiple of 4 on
abbrev pub EndsAt : Entries → Children → ℕ → ℕ → Type 0
EndsAt e c at i = ((lists_end e c at i ≡ at) × (c.first i ≡ 0)) ⊎ (lists_end e c at i ≡ round_up 4 at + 4 * c.first i)

one_more : (at end first next : ℕ) → end ≡ at → first ≡ 0 → round_up 4 end + 4 * (next - first) ≡ round_up 4 at + 4 * next
one_more at end first next e f =
    let all : next - first ≡ next = omega (arith, f) in
    ap (λ (n : ℕ). round_up 4 n + 4 * (next - first)) e ∙ ap (λ (n : ℕ). round_up 4 at + 4 * n) all

aligned_more : (at end first : ℕ) → end ≡ round_up 4 at + 4 * first → round_up 4 end ≡ end
unfolding round_up
aligned_more at end first e = omega (arith, e)

then_more : (at end first next : ℕ) → end ≡ round_up 4 at + 4 * first → first ≤ next → round_up 4 end + 4 * (next - first) ≡ round_up 4 at + 4 * next
then_more at end first next e le = let a = aligned_more at end first e in omega (arith, a, e, le)

list_more : (e : Entries) (c : Children) (at i : ℕ) → EndsAt e c at i → c.first i ≤ c.first (i + 1) → round_up 4 (lists_end e c at i) + list_size c i ≡ round_up 4 at + 4 * c.first (i + 1)
list_more e c at i (inl a) rise = one_more at (lists_end e c at i) (c.first i) (c.first (i + 1)) a.0 a.1
list_more e c at i (inr b) rise = then_more at (lists_end e c at i) (c.first i) (c.first (i + 1)) b rise

same_more : (e : Entries) (c : Children) (at i : ℕ) → EndsAt e c at i → c.first (i + 1) ≡ c.first i → (end : ℕ) → end ≡ lists_end e c at i → ((end ≡ at) × (c.first (i + 1) ≡ 0)) ⊎ (end ≡ round_up 4 at + 4 * c.first (i + 1))
same_more e c at i (inl a) same end is = inl (is ∙ a.0, same ∙ a.1)
same_more e c at i (inr b) same end is = inr (is ∙ (b ∙ ap (λ (n : ℕ). round_up 4 at + 4 * n) (sym same)))

pub ends_at : (e : Entries) (c : Children) (at : ℕ) → EachEntry e (IsRootEntry e) → AreChildren e c → (i : ℕ) → i ≤ e.count → EndsAt e c at i
ends_at e c at root are zero le = inl (refl, first_is_zero c.count (e.count + 1) c.directory c.first are.firsts (omega arith))
ends_at e c at root are (suc i) le =
    let before = ends_at e c at root are i (omega (arith, le)) in
    let rise = firsts_rise c.count (e.count + 1) c.directory c.first are.firsts i (omega (arith, le)) in
    let next : suc i ≡ i + 1 = omega arith in
    subst (λ (n : ℕ). ((lists_end e c at (suc i) ≡ at) × (c.first n ≡ 0)) ⊎ (lists_end e c at (suc i) ≡ round_up 4 at + 4 * c.first n)) (sym next)
    (by_bool (eqb (e.entry i).kind list_kind) (((lists_end e c at (suc i) ≡ at) × (c.first (i + 1) ≡ 0)) ⊎ (lists_end e c at (suc i) ≡ round_up 4 at + 4 * c.first (i + 1)))
    (λ list. inr (ap (λ (b : Bool). cond b (round_up 4 (lists_end e c at i) + list_size c i) (lists_end e c at i)) list ∙ list_more e c at i before rise))
    (λ other. same_more e c at i before (no_children e c i root are (omega (arith, le)) (λ k. let bad : true ≡ false = sym (ap (λ (n : ℕ). eqb n list_kind) k) ∙ other in cc)) (lists_end e c at (suc i))
    (ap (λ (b : Bool). cond b (round_up 4 (lists_end e c at i) + list_size c i) (lists_end e c at i)) other)))

-- the list of a directory is where those before it end
pub list_starts : (e : Entries) (c : Children) (at i : ℕ) → EndsAt e c at i → round_up 4 (lists_end e c at i) ≡ round_up 4 at + 4 * c.first i
list_starts e c at i (inl a) = ap (λ (n : ℕ). round_up 4 n) a.0 ∙ let f = a.1 in let e : round_up 4 at ≡ round_up 4 at + 4 * c.first i = omega (arith, f) in e
list_starts e c at i (inr b) = aligned_more at (lists_end e c at i) (c.first i) b ∙ b

-- A chain of parents: it is one chain, and none of its items occurs in it twice.
use Rattle.std.proofs.Common.{ℕ, ◌≤◌, ◌<◌, ◌≡◌, Bool, true, false, ◌||◌, List, [], ◌∷◌, length, Some, refl, sym, ◌∙◌, ap, subst, arith, eqb}
use Rattle.std.specs.Prelude.{IfSome}
use Rattle.std.specs.List.{IsDistinct, AllByRecursion, list_any}
use Rattle.std.proofs.lemmas.Map.Steps.{length-le_from_distinct_below}
use Rattle.std.proofs.lemmas.Bool.{eqb-true, false_from_ne_true}
use Rattle.std.proofs.lemmas.Option.{none-some, same_Some}
use Rattle.dconf_model.specs.Table.{Table, item, item_count}
use Rattle.dconf_model.specs.Searchable.{EachItem, LeadsUp, HasGoodKey}

-- an item's parents are these and no others
one_chain : (t : Table) (i : ℕ) (ps qs : List ℕ) → LeadsUp t i ps → LeadsUp t i qs → ps ≡ qs
one_chain t i [] [] h k = refl
one_chain t i [] (q ∷ qs) h k = absurd (none-some q (sym h ∙ k.0))
one_chain t i (p ∷ ps) [] h k = absurd (none-some p (sym k ∙ h.0))
one_chain t i (p ∷ ps) (q ∷ qs) h k =
    let same : q ≡ p = same_Some q p (sym k.0 ∙ h.0) in
    let rest : ps ≡ qs = one_chain t p ps qs h.1 (subst (λ (x : ℕ). LeadsUp t x qs) same k.1) in
    cc

pub by_bool : (b : Bool) (P : Type 0) → (b ≡ true → P) → (b ≡ false → P) → P
by_bool true P x y = x refl
by_bool false P x y = y refl

-- each of the parents has a shorter chain
later_chain : (t : Table) (i q : ℕ) (ps : List ℕ) → LeadsUp t i ps → list_any (eqb q) ps ≡ true → (qs : List ℕ) × (length qs < length ps) × LeadsUp t q qs
later_chain t i q [] h e = let bad : false ≡ true = e in cc
later_chain t i q (p ∷ ps) h e =
    by_bool (eqb q p) ((qs : List ℕ) × (length qs < length (p ∷ ps)) × LeadsUp t q qs)
    (λ same. (ps, omega arith, subst (λ (x : ℕ). LeadsUp t x ps) (sym (eqb-true q p same)) h.1))
    (λ other. let r = later_chain t p q ps h.1 (sym (ap (λ b. b || list_any (eqb q) ps) other) ∙ e) in (r.0, omega (arith, r.1), r.2))

-- no item is among its own parents
not_own_parent : (t : Table) (i : ℕ) (ps : List ℕ) → LeadsUp t i ps → list_any (eqb i) ps ≡ false
not_own_parent t i ps h = false_from_ne_true _ (λ e. let r = later_chain t i i ps h e in let same : length ps ≡ length r.0 = ap (λ (l : List ℕ). length l) (one_chain t i ps r.0 h r.2) in omega (arith, r.1, same))

pub all_other : (i : ℕ) (ps : List ℕ) → list_any (eqb i) ps ≡ false → AllByRecursion (λ y. eqb i y ≡ false) ps
all_other i [] e = tt
all_other i (p ∷ ps) e =
    by_bool (eqb i p) (AllByRecursion (λ y. eqb i y ≡ false) (p ∷ ps))
    (λ same. let bad : true ≡ false = sym (ap (λ b. b || list_any (eqb i) ps) same) ∙ e in cc)
    (λ other. (other, all_other i ps (sym (ap (λ b. b || list_any (eqb i) ps) other) ∙ e)))

distinct : (t : Table) (i : ℕ) (ps : List ℕ) → LeadsUp t i ps → IsDistinct eqb (i ∷ ps)
unfolding IsDistinct
distinct t i [] h = (tt, tt)
distinct t i (p ∷ ps) h = (all_other i (p ∷ ps) (not_own_parent t i (p ∷ ps) h), distinct t p ps h.1)

-- where all of them are items, there are fewer parents than items
pub few_above : (t : Table) (i : ℕ) (ps : List ℕ) → LeadsUp t i ps → ((q : ℕ) → list_any (eqb q) (i ∷ ps) ≡ true → q < item_count t) → length ps < item_count t
few_above t i ps h inside = let le : length (i ∷ ps) ≤ item_count t = length-le_from_distinct_below (i ∷ ps) (item_count t) (distinct t i ps h) inside in omega (arith, le)

-- a good key's parent is an item
pub parent_counted : (t : Table) (i p : ℕ) → EachItem t (HasGoodKey t) → i < item_count t → (item t i).parent ≡ Some p → p < item_count t
parent_counted t i p good counted up = subst (λ x. IfSome x (λ q. q < item_count t)) up (good i counted).parent

all_counted : (t : Table) → EachItem t (HasGoodKey t) → (i q : ℕ) (ps : List ℕ) → i < item_count t → LeadsUp t i ps → list_any (eqb q) (i ∷ ps) ≡ true → q < item_count t
all_counted t good i q [] counted h e =
    by_bool (eqb q i) (q < item_count t)
    (λ same. subst (λ (x : ℕ). x < item_count t) (sym (eqb-true q i same)) counted)
    (λ other. let bad : false ≡ true = sym (ap (λ b. b || false) other) ∙ e in cc)
all_counted t good i q (p ∷ ps) counted h e =
    by_bool (eqb q i) (q < item_count t)
    (λ same. subst (λ (x : ℕ). x < item_count t) (sym (eqb-true q i same)) counted)
    (λ other. all_counted t good p q ps (parent_counted t i p good counted h.0) h.1 (sym (ap (λ b. b || list_any (eqb q) (p ∷ ps)) other) ∙ e))

-- where all keys are good, a chain has fewer parents than there are items
pub few_steps : (t : Table) (i : ℕ) (ps : List ℕ) → EachItem t (HasGoodKey t) → i < item_count t → LeadsUp t i ps → length ps < item_count t
few_steps t i ps good counted h = few_above t i ps h (λ q e. all_counted t good i q ps counted h e)

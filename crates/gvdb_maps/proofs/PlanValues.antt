-- The values of a plan, once each, from those of the items of its tables.
use Rattle.std.proofs.lemmas.Grind.{common_steps}
use Rattle.std.proofs.Common.{ℕ, zero, suc, ◌≡◌, ◌≤◌, ◌+◌, Bool, cond, List, [], ◌∷◌, ◌++◌, length, take, fold, refl, sym, ap, ◌∙◌, arith, if◌then◌else◌, ◌==◌, ne_eqb}
use Rattle.std.proofs.lemmas.List.{take_all}
use Rattle.std.proofs.lemmas.List.Sums.{fold-append}
use Rattle.dconf_model.specs.Table.{value_kind}
use Rattle.dconf_model.specs.Plans.{item_values, all_values, with_new, once_each, nothing_bytes}
use Rattle.gvdb_maps.specs.declared.names.Content.{Content}
use Rattle.gvdb_maps.specs.declared.names.Content.TheVariants.{Value, List as Listed, Locks}
use Rattle.gvdb_maps.specs.declared.names.Named.{Named}
use Rattle.gvdb_maps.specs.declared.table.TablePlan.{TablePlan}
use Rattle.gvdb_maps.specs.LayoutParts.{AreLocks, own_value, own_values}
use Rattle.gvdb_maps.specs.PlanWords.{named, kind_at, kind_of, content_bytes, plan_of}
use Rattle.gvdb_maps.proofs.FoundValues.{twice_is_once, values_more}

-- ---- the values of the root table

own_of_kind : (content : Content) → (if kind_of content == value_kind then content_bytes content ∷ [] else []) ≡ own_value content
own_of_kind (Value bytes) = refl
own_of_kind Listed = refl
own_of_kind Locks = refl

pub values_so_far : (root locks : TablePlan) (i : ℕ) → i ≤ length root.items.items → item_values (plan_of root locks) i ≡ own_values (take i root.items.items)
values_so_far root locks zero l = refl
values_so_far root locks (suc i) l =
    let items = root.items.items in
    let next : i + 1 ≡ suc i = omega arith in
    ap (λ (vs : List (List ℕ)). vs ++ (if kind_at items i == value_kind then content_bytes (named items i).content ∷ [] else [])) (values_so_far root locks i (omega (arith, l)))
    ∙ (ap (λ (vs : List (List ℕ)). own_values (take i items) ++ vs) (own_of_kind (named items i).content)
    ∙ (sym (values_more items i (omega (arith, l))) ∙ ap (λ (n : ℕ). own_values (take n items)) next))

pub root_values : (root locks : TablePlan) → item_values (plan_of root locks) (length root.items.items) ≡ own_values root.items.items
root_values root locks = grind (arith, common_steps, take_all, values_so_far)

-- ---- the values of locks, of which one is laid

abbrev lock_values : ℕ → List (List ℕ)
lock_values n = if n == 0 then [] else nothing_bytes ∷ []

some_locks : (n : ℕ) → nothing_bytes ∷ [] ≡ lock_values (suc n)
some_locks n = ap (λ (b : Bool). cond b [] (nothing_bytes ∷ [])) (sym (ne_eqb (suc n) 0 (omega arith)))

own_of_lock : (content : Content) → kind_of content ≡ value_kind → content_bytes content ≡ nothing_bytes → own_value content ≡ nothing_bytes ∷ []
own_of_lock (Value bytes) k e = ap (λ (v : List ℕ). v ∷ []) e
own_of_lock Listed k e = absurd (omega (arith, k))
own_of_lock Locks k e = absurd (omega (arith, k))

first_of_locks : (item : Named) (items : List Named) → AreLocks (item ∷ items) → own_values (item ∷ items) ≡ nothing_bytes ∷ own_values items
first_of_locks item items locks = grind (arith, common_steps, own_of_lock)

other_locks : (item : Named) (items : List Named) → AreLocks (item ∷ items) → AreLocks items
other_locks item items locks i l = locks (suc i) (omega (arith, l))

no_more_of_locks : (items : List Named) (seen : List (List ℕ)) → AreLocks items → fold with_new (with_new seen nothing_bytes) (own_values items) ≡ with_new seen nothing_bytes
no_more_of_locks [] seen locks = refl
no_more_of_locks (item ∷ items) seen locks =
    ap (fold with_new (with_new seen nothing_bytes)) (first_of_locks item items locks)
    ∙ (ap (λ (vs : List (List ℕ)). fold with_new vs (own_values items)) (twice_is_once seen nothing_bytes)
    ∙ no_more_of_locks items seen (other_locks item items locks))

pub locks_add_one : (items : List Named) (seen : List (List ℕ)) → AreLocks items → fold with_new seen (own_values items) ≡ fold with_new seen (lock_values (length items))
locks_add_one [] seen locks = refl
locks_add_one (item ∷ items) seen locks =
    ap (fold with_new seen) (first_of_locks item items locks)
    ∙ (no_more_of_locks items seen (other_locks item items locks)
    ∙ ap (fold with_new seen) (some_locks (length items)))

-- ---- both

-- those of the root table, and after them those of the locks, are all values once each
pub all_once : (root locks : TablePlan) (first all : List (List ℕ)) → AreLocks locks.items.items → first ≡ fold with_new [] (own_values root.items.items) → all ≡ fold with_new first (own_values locks.items.items) → all ≡ once_each (all_values (plan_of root locks))
all_once root locks first all are of_root of_locks = grind (arith, common_steps, fold-append, root_values, locks_add_one)

-- the same of lists of items that are handed on
pub placed_once : (root locks : TablePlan) (root_items lock_items : List Named) (all : List (List ℕ)) → AreLocks locks.items.items → root_items ≡ root.items.items → lock_items ≡ locks.items.items
    → all ≡ fold with_new (fold with_new [] (own_values root_items)) (own_values lock_items) → all ≡ once_each (all_values (plan_of root locks))
placed_once root locks root_items lock_items all are r l is =
    all_once root locks (fold with_new [] (own_values root.items.items)) all are refl
    (is ∙ (ap (λ (items : List Named). fold with_new (fold with_new [] (own_values items)) (own_values lock_items)) r
    ∙ ap (λ (items : List Named). fold with_new (fold with_new [] (own_values root.items.items)) (own_values items)) l))

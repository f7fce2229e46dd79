-- Where the parts of a layout end is where its plan says.
use Rattle.std.proofs.lemmas.Grind.{common_steps}
use Rattle.std.proofs.Common.{ℕ, ◌≡◌, ◌<◌, ◌≤◌, ◌+◌, List, length, refl, sym, ap, ◌∙◌, arith, ◌*◌}
use Rattle.gv_model.specs.Layout.{round_up}
use Rattle.dconf_model.specs.Table.{list_kind}
use Rattle.dconf_model.specs.Entries.{EachEntry, IsRootEntry, AreChildren, Children}
use Rattle.dconf_model.specs.Plans.{size_of_table, keys_end, root_end, locks_end, values_end, length_of, once_each, all_values}
use Rattle.dconf_model.proofs.PlanEnds.{lists_end_is, locks_rise}
use Rattle.gvdb_maps.specs.declared.table.TablePlan.{TablePlan}
use Rattle.gvdb_maps.specs.PlanWords.{kind_at, entries_of, children_of, plan_of}
use Rattle.gvdb_maps.specs.LayoutParts.{CanBeLaid, root_keys_at, table_end, laid_end}
use Rattle.gvdb_values.proofs.WithValues.{values_rise}

-- where all lists end
abbrev pub all_lists_end : ℕ → Children → ℕ
all_lists_end at c = round_up 4 at + 4 * c.count

-- a header ends at a multiple of 4
pub header_end : round_up 4 24 ≡ 24
unfolding round_up
header_end = refl

-- keys of the root table come after it
pub root_keys : (root locks : TablePlan) → table_end 24 (length root.items.items) ≡ root_keys_at (plan_of root locks)
root_keys root locks = ap (λ (n : ℕ). n + size_of_table (length root.items.items)) header_end

-- the root table ends with its lists
pub root_ends : (root locks : TablePlan) → CanBeLaid root.items.items → EachEntry (entries_of root.items.items) (IsRootEntry (entries_of root.items.items))
    → AreChildren (entries_of root.items.items) (children_of root) → (i : ℕ) × (i < length root.items.items) × (kind_at root.items.items i ≡ list_kind)
    → all_lists_end (laid_end 24 root.items.items) (children_of root) ≡ root_end (plan_of root locks)
root_ends root locks items entries children top =
    ap (λ (n : ℕ). all_lists_end (keys_end (entries_of root.items.items) n (length root.items.items)) (children_of root)) (root_keys root locks)
    ∙ sym (lists_end_is (entries_of root.items.items) (children_of root)
    (keys_end (entries_of root.items.items) (root_keys_at (plan_of root locks)) (length root.items.items)) top.0
    entries children (λ j p here is. items.parents j p here is) top.1 top.2)

-- what is laid before the values ends before all does
pub locks_within : (root locks : TablePlan) → locks_end (entries_of locks.items.items) (root_end (plan_of root locks)) ≤ length_of (plan_of root locks)
locks_within root locks = values_rise (once_each (all_values (plan_of root locks))) (locks_end (entries_of locks.items.items) (root_end (plan_of root locks)))

pub root_within : (root locks : TablePlan) → root_end (plan_of root locks) ≤ length_of (plan_of root locks)
root_within root locks = grind (arith, common_steps, locks_rise, locks_within)

-- all of it
pub whole_is : (root locks : TablePlan) (root_at lock_at end : ℕ) (values : List (List ℕ)) → root_at ≡ root_end (plan_of root locks)
    → lock_at ≡ locks_end (entries_of locks.items.items) root_at → values ≡ once_each (all_values (plan_of root locks)) → end ≡ values_end lock_at values
    → end ≡ length_of (plan_of root locks)
whole_is root locks root_at lock_at end values from to once is = grind (arith, common_steps)

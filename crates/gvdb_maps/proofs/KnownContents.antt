-- The content of each item is known where a layout has everything.
use Rattle.std.proofs.lemmas.Grind.{common_steps}
use Rattle.std.proofs.Common.{ℕ, ◌≡◌, ◌<◌, ◌≤◌, ◌+◌, ◌*◌, List, length, get_or, refl, sym, ◌∙◌, subst, ap₂, arith}
use Rattle.gv_model.specs.Layout.{round_up}
use Rattle.gv_model.specs.Limits.{limit}
use Rattle.dconf_model.specs.Table.{value_kind, list_kind}
use Rattle.dconf_model.specs.Entries.{EachEntry, IsRootEntry, AreChildren}
use Rattle.dconf_model.specs.Plans.{Plan, root_end, values_end, all_values, once_each}
use Rattle.gvdb_maps.specs.declared.contents.Contents.{Contents}
use Rattle.gvdb_maps.specs.declared.layout.Layout.{Layout}
use Rattle.gvdb_maps.specs.declared.layout.Pointer.{Pointer}
use Rattle.gvdb_maps.specs.declared.names.Content.{Content}
use Rattle.gvdb_maps.specs.declared.names.Content.TheVariants.{Value, List as Listed, Locks}
use Rattle.gvdb_maps.specs.declared.names.Named.{Named}
use Rattle.gvdb_maps.specs.declared.table.TablePlan.{TablePlan}
use Rattle.gvdb_maps.specs.PlanWords.{named, kind_at, kind_of, entries_of, children_of, plan_of}
use Rattle.gvdb_maps.specs.LayoutParts.{CanBeLaid, AreLocks, values_at, laid_end, pointer_at, IsShort, HavePlaces, ArePointers, CanPoint, CanPointAt, content_pointer}
use Rattle.gvdb_values.specs.WrittenValues.{bytes_of_each}
use Rattle.gvdb_maps.specs.PlannedTables.{AreContentsOf, IsLayoutOf}
use Rattle.gvdb_maps.proofs.LaidValues.{pointers_short}
use Rattle.gvdb_maps.proofs.LayoutEnds.{root_ends}

-- ---- by the content of an item

there_at : (c : Contents) (i : ℕ) (content : Content) → (kind_of content ≡ value_kind → (i < length c.places.now) × (get_or c.places.now i 0 < length c.pointers.now)) → (kind_of content ≡ list_kind → i + 1 < length c.firsts.now) → CanPointAt c i content
there_at c i (Value bytes) value list = value refl
there_at c i Listed value list = list refl
there_at c i Locks value list = tt

abbrev pub list_of : Contents → ℕ → Pointer
list_of c i = record { start = c.lists + 4 * get_or c.firsts.now i 0; end = c.lists + 4 * get_or c.firsts.now (i + 1) 0 }

short_at : (c : Contents) (i : ℕ) (content : Content) → (kind_of content ≡ value_kind → IsShort (pointer_at c.pointers.now (get_or c.places.now i 0))) → (kind_of content ≡ list_kind → IsShort (list_of c i)) → IsShort c.table → IsShort (content_pointer c i content)
short_at c i (Value bytes) value list table = value refl
short_at c i Listed value list table = list refl
short_at c i Locks value list table = table

-- the lists of items: there is one after the last, and each ends where it fits
pub record HaveLists (items : List Named) (c : Contents) : Type 0 where
  pub there : (i : ℕ) → i < length items → kind_at items i ≡ list_kind → i + 1 < length c.firsts.now
  pub short : (i : ℕ) → i < length items → kind_at items i ≡ list_kind → IsShort (list_of c i)

pub can_point : (items : List Named) (c : Contents) (at : ℕ) (values : List (List ℕ)) → HavePlaces items values c.places.now → ArePointers at values c.pointers.now → values_end at values ≤ limit → HaveLists items c → IsShort c.table → CanPoint items c
can_point items c at values have laid within lists table = record {
  there = λ i here.
      there_at c i (named items i).content
      (λ value. let n = have.counted in let p = have.within i here value in let m = laid.counted in (omega (arith, here, n), omega (arith, p, m)))
      (lists.there i here);
  short = λ i here.
      short_at c i (named items i).content
      (λ value. let p = have.within i here value in let m = laid.counted in pointers_short at values c.pointers.now laid within (get_or c.places.now i 0) (omega (arith, p, m)))
      (lists.short i here) table;
}

-- ---- of the two tables

pub root_lists : (root : TablePlan) (c : Contents) → AreChildren (entries_of root.items.items) (children_of root) → length root.firsts.items ≡ length root.items.items + 1 → c.firsts.now ≡ root.firsts.items → c.lists + 4 * length root.children.items ≤ limit → HaveLists root.items.items c
root_lists root c children count firsts within = grind (arith, common_steps)

-- locks have none
pub lock_lists : (items : List Named) (c : Contents) → AreLocks items → HaveLists items c
lock_lists items c are = grind (arith, common_steps)

-- ---- of a layout

-- the same of lists that are handed on
pub contents_are : (layout : Layout) (firsts first_list places place_list : List ℕ) (c : Contents) → firsts ≡ first_list → places ≡ place_list → AreContentsOf layout firsts places c → AreContentsOf layout first_list place_list c
contents_are layout firsts first_list places place_list c f p are = record {
  lists_is = are.lists_is;
  firsts_is = are.firsts_is ∙ f;
  table_is = are.table_is;
  places_is = are.places_is ∙ p;
  pointers_is = are.pointers_is;
}

module _ (root locks : TablePlan) (layout : Layout) (is : IsLayoutOf root locks layout) (firsts places : List ℕ) (c : Contents) (contents : AreContentsOf layout firsts places c) where
  abbrev P : Plan
  P = plan_of root locks

  pub places_known : (items : List Named) → HavePlaces items (bytes_of_each layout.values.distinct.items) places → HavePlaces items (once_each (all_values (plan_of root locks))) c.places.now
  places_known items have = rw (sym is.values, contents.places_is) have

  pub pointers_known : ArePointers (values_at (plan_of root locks)) (once_each (all_values (plan_of root locks))) c.pointers.now
  pointers_known = rw (sym is.values, contents.pointers_is) is.pointers

  pub contents_known : (items : List Named) → HavePlaces items (bytes_of_each layout.values.distinct.items) places → HaveLists items c → CanPoint items c
  contents_known items have lists =
      can_point items c (values_at P) (once_each (all_values P)) (places_known items have) pointers_known is.within lists (subst IsShort (sym contents.table_is) is.locks_short)

-- ---- where the lists end

pub lists_end_there : (root locks : TablePlan) (items : List Named) (at count : ℕ) → CanBeLaid root.items.items → EachEntry (entries_of root.items.items) (IsRootEntry (entries_of root.items.items))
    → AreChildren (entries_of root.items.items) (children_of root) → (i : ℕ) × (i < length root.items.items) × (kind_at root.items.items i ≡ list_kind)
    → items ≡ root.items.items → at ≡ laid_end 24 items → count ≡ length root.children.items → round_up 4 at + 4 * count ≡ root_end (plan_of root locks)
lists_end_there root locks items at count can entries children top same is counted = grind (arith, common_steps, ap₂, root_ends)

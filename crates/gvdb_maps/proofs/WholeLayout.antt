-- Records that are made by a layout say where everything is.
use Rattle.std.proofs.Common.{ℕ, ◌≡◌, ◌<◌, ◌+◌, ◌*◌, List, length, get_or, ap, ap₂, ◌∙◌, subst}
use Rattle.dconf_model.specs.Plans.{Plan, nothing_bytes, all_values, once_each}
use Rattle.dconf_model.specs.Table.{value_kind, list_kind, table_kind}
use Rattle.gvdb_format.specs.declared.record.ItemRecord.{ItemRecord as Numbers}
use Rattle.gvdb_maps.specs.declared.contents.Contents.{Contents}
use Rattle.gvdb_maps.specs.declared.layout.Layout.{Layout}
use Rattle.gvdb_maps.specs.declared.layout.Pointer.{Pointer}
use Rattle.gvdb_maps.specs.declared.names.Named.{Named}
use Rattle.gvdb_maps.specs.declared.table.TablePlan.{TablePlan}
use Rattle.gvdb_maps.specs.PlanWords.{named, kind_at, plan_of, content_bytes}
use Rattle.gvdb_maps.specs.LayoutParts.{AreRecords, AreLocks, HasPointer, root_keys_at, lists_at, locks_at, lock_keys_at, values_at, row, value_start, ArePointed, HavePlaces, ArePointers}
use Rattle.gvdb_maps.specs.PlannedTables.{AreContentsOf, IsLayoutOf}
use Rattle.gvdb_maps.specs.WrittenParts.{AreRowsOf}
use Rattle.gvdb_maps.proofs.KnownContents.{places_known, pointers_known}
use Rattle.gvdb_maps.proofs.LaidRows.{of_list, of_table, of_value}
use Rattle.std.specs.Prelude.{slice_index_or, []}

-- the content is that value, at one of its places
pub record HasPlacedValue (at : ℕ) (values : List (List ℕ)) (value : List ℕ) (r : Numbers) : Type 0 where
  pub place : ℕ
  pub within : place < length values
  pub is : slice_index_or values place [] ≡ value
  pub pointed : HasPointer r (value_start at values place) (value_start at values place + length value)

-- each item's value is where its row says
pub value_placed : (items : List Named) (c : Contents) (at : ℕ) (rows : List Numbers) (values : List (List ℕ))
    → HavePlaces items values c.places.now → ArePointers at values c.pointers.now → ArePointed items c rows → (i : ℕ) → i < length items → kind_at items i ≡ value_kind
    → HasPlacedValue at values (content_bytes (named items i).content) (row rows i)
value_placed items c at rows values have laid pointed i l k =
    let p = get_or c.places.now i 0 in
    let within = have.within i l k in
    let holds = have.holds i l k in
    let is = of_value c i (named items i).content k in
    let pointer = pointed i l in
    record {
      place = p;
      within = within;
      is = holds;
      pointed = record {
        start_is = pointer.start_is ∙ (ap (λ (q : Pointer). q.start) is ∙ laid.starts p within);
        end_is = pointer.end_is ∙ (ap (λ (q : Pointer). q.end) is ∙ (laid.ends p within ∙ ap (λ (v : List ℕ). value_start at values p + length v) holds));
      };
    }

-- that of a lock is the empty string
pub lock_placed : (items : List Named) (c : Contents) (at : ℕ) (rows : List Numbers) (values : List (List ℕ)) → AreLocks items
    → HavePlaces items values c.places.now → ArePointers at values c.pointers.now → ArePointed items c rows → (i : ℕ) → i < length items → HasPlacedValue at values nothing_bytes (row rows i)
lock_placed items c at rows values locks have laid pointed i l =
    subst (λ (v : List ℕ). HasPlacedValue at values v (row rows i)) (locks i l).1 (value_placed items c at rows values have laid pointed i l (locks i l).0)

-- records by which all is found where the layout says
pub record IsLaid (root locks : TablePlan) (layout : Layout) (root_rows lock_rows : List Numbers) : Type 0 where
  pub is : IsLayoutOf root locks layout
  pub root_records : AreRecords root.items.items (root_keys_at (plan_of root locks)) root_rows
  pub lists : (i : ℕ) → i < length root.items.items → kind_at root.items.items i ≡ list_kind →
      HasPointer (row root_rows i)
      (lists_at (plan_of root locks) + 4 * (plan_of root locks).children.first i)
      (lists_at (plan_of root locks) + 4 * (plan_of root locks).children.first (i + 1))
  pub tables : (i : ℕ) → i < length root.items.items → kind_at root.items.items i ≡ table_kind → 0 < length locks.items.items →
      HasPointer (row root_rows i) (locks_at (plan_of root locks)) (lock_keys_at (plan_of root locks))
  pub lock_records : 0 < length locks.items.items → AreRecords locks.items.items (lock_keys_at (plan_of root locks)) lock_rows
  pub root_values : (i : ℕ) → i < length root.items.items → kind_at root.items.items i ≡ value_kind →
      HasPlacedValue (values_at (plan_of root locks)) (once_each (all_values (plan_of root locks))) ((plan_of root locks).value i) (row root_rows i)
  pub lock_values : (i : ℕ) → i < length locks.items.items →
      HasPlacedValue (values_at (plan_of root locks)) (once_each (all_values (plan_of root locks))) nothing_bytes (row lock_rows i)

module _ (root locks : TablePlan) (layout : Layout) (is : IsLayoutOf root locks layout) where
  abbrev P : Plan
  P = plan_of root locks

  abbrev Stored : List (List ℕ)
  Stored = once_each (all_values P)

  pub is_laid : (c l : Contents) (root_rows lock_rows : List Numbers) → AreLocks locks.items.items
      → AreContentsOf layout root.firsts.items layout.values.root.items c → AreContentsOf layout root.firsts.items layout.values.locks.items l
      → AreRowsOf root.items.items layout.root.end c root_rows → AreRowsOf locks.items.items layout.locks.end l lock_rows → IsLaid root locks layout root_rows lock_rows
  is_laid c l root_rows lock_rows are contents lock_contents rows lock =
      let items = root.items.items in
      record {
        is = is;
        root_records = subst (λ (n : ℕ). AreRecords items n root_rows) is.end_is rows.are;
        lists = λ i here list.
            let p = rows.pointed i here in
            let of = of_list c i (named items i).content list in
            let at : (j : ℕ) → c.lists + 4 * get_or c.firsts.now j 0 ≡ lists_at P + 4 * get_or root.firsts.items j 0 =
            λ j. ap₂ (λ (n : ℕ) (f : List ℕ). n + 4 * get_or f j 0) (contents.lists_is ∙ is.lists_is) contents.firsts_is in
            record { start_is = p.start_is ∙ (ap (λ (q : Pointer). q.start) of ∙ at i); end_is = p.end_is ∙ (ap (λ (q : Pointer). q.end) of ∙ at (i + 1)) };
        tables = λ i here table some.
            let p = rows.pointed i here in
            let of = of_table c i (named items i).content table ∙ contents.table_is in
            record {
              start_is = p.start_is ∙ (ap (λ (q : Pointer). q.start) of ∙ is.locks_start_is some);
              end_is = p.end_is ∙ (ap (λ (q : Pointer). q.end) of ∙ is.locks_end_is some);
            };
        lock_records = λ some. subst (λ (n : ℕ). AreRecords locks.items.items n lock_rows) (is.locks_end_is some) lock.are;
        root_values =
            value_placed items c (values_at P) root_rows Stored
            (places_known root locks layout is _ _ c contents items is.root_places) (pointers_known root locks layout is _ _ c contents) rows.pointed;
        lock_values =
            lock_placed locks.items.items l (values_at P) lock_rows Stored are
            (places_known root locks layout is _ _ l lock_contents locks.items.items is.lock_places) (pointers_known root locks layout is _ _ l lock_contents) lock.pointed;
      }

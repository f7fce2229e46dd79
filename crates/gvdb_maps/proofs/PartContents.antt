-- The content of each item of a file is where the item's numbers say.
use Rattle.std.proofs.Common.{arith, ◌≡◌, ◌<◌, ◌≤◌, ◌+◌, ◌-◌, ◌*◌, ◌%◌, ℕ, List, length, sym, ap, ◌∙◌, subst, inl, inr}
use Rattle.std.proofs.lemmas.List.{length-map}
use Rattle.gv_model.specs.Layout.{round_up}
use Rattle.dconf_model.specs.Table.{value_kind, list_kind, table_kind}
use Rattle.dconf_model.specs.Searchable.{IsKind}
use Rattle.dconf_model.specs.Plans.{Plan, all_values, once_each, nothing_bytes}
use Rattle.dconf_model.specs.TableBytes.{OccursAt, words_bytes}
use Rattle.dconf_model.proofs.Occurrences.{occurs_at, occurs_inside}
use Rattle.dconf_model.proofs.LaidGroups.{firsts_rise}
use Rattle.dconf_model.proofs.PlanLocks.{table_has_locks}
use Rattle.gvdb_format.specs.declared.record.ItemRecord.{ItemRecord as Numbers}
use Rattle.gvdb_maps.specs.declared.layout.Layout.{Layout}
use Rattle.gvdb_maps.specs.declared.table.TablePlan.{TablePlan}
use Rattle.gvdb_maps.specs.PlanWords.{children_of, plan_of, kind_at}
use Rattle.gvdb_maps.specs.LayoutParts.{HasPointer, row, lists_at, locks_at, lock_keys_at, value_start, values_at}
use Rattle.gvdb_maps.specs.WrittenParts.{numbers_of}
use Rattle.gvdb_maps.specs.PlannedTables.{AreTables}
use Rattle.gvdb_maps.proofs.TableWritten.{HasContentAt, length-words}
use Rattle.gvdb_maps.proofs.PartEnds.{locks_fit}
use Rattle.gvdb_maps.proofs.WholeLayout.{IsLaid, HasPlacedValue}
use Rattle.gvdb_maps.proofs.PartPlaces.{AreParts, file_length, lists_occur, value_in}

whole_8 : (n : ℕ) → round_up 8 n % 8 ≡ 0
unfolding round_up
whole_8 n = omega arith

pub whole_4 : (n : ℕ) → round_up 4 n % 4 ≡ 0
unfolding round_up
whole_4 n = omega arith

run_is_whole : (base a b start end : ℕ) → start ≡ base + 4 * a → end ≡ base + 4 * b → (end - start) % 4 ≡ 0
run_is_whole base a b start end e f = omega (arith, e, f)

starts_whole : (base a start : ℕ) → base % 4 ≡ 0 → start ≡ base + 4 * a → start % 4 ≡ 0
starts_whole base a start e f = omega (arith, e, f)

module _ (root locks : TablePlan) (layout : Layout) (root_rows lock_rows : List Numbers) (file : List ℕ) (tables : AreTables root locks) (laid : IsLaid root locks layout root_rows lock_rows) (parts : AreParts root locks layout root_rows lock_rows file) where
  abbrev P : Plan
  P = plan_of root locks

  abbrev Stored : List (List ℕ)
  Stored = once_each (all_values P)

  -- ---- a value

  pub placed_occurs : (value : List ℕ) (r : Numbers) → HasPlacedValue (values_at (plan_of root locks)) (once_each (all_values (plan_of root locks))) value r → OccursAt file r.start value
  placed_occurs value r is =
      occurs_at file (value_start (values_at P) Stored is.place) r.start value (sym is.pointed.start_is)
      (subst (λ (v : List ℕ). OccursAt file (value_start (values_at P) Stored is.place) v) is.is (value_in root locks layout root_rows lock_rows file tables laid parts is.place is.within))

  pub placed_ends : (value : List ℕ) (r : Numbers) → HasPlacedValue (values_at (plan_of root locks)) (once_each (all_values (plan_of root locks))) value r → r.end ≡ r.start + length value
  placed_ends value r is = is.pointed.end_is ∙ ap (λ (n : ℕ). n + length value) (sym is.pointed.start_is)

  value_content : (value : List ℕ) (r : Numbers) → HasPlacedValue (values_at P) Stored value r → HasContentAt file value_kind r
  value_content value r is =
      let end = placed_ends value r is in
      let inside = occurs_inside file r.start value (placed_occurs value r is) in
      record {
        valid = record {
          ordered = omega (arith, end);
          inside = omega (arith, end, inside);
          aligned = ap (λ (n : ℕ). n % 8) is.pointed.start_is ∙ whole_8 _;
        };
        whole = λ list. absurd (omega (arith, list));
      }

  -- ---- a list

  pub list_rises : (i : ℕ) → i < length root.items.items → (children_of root).first i ≤ (children_of root).first (i + 1)
  list_rises i here =
      firsts_rise P.children.count (P.root.count + 1) P.children.directory P.children.first tables.plan.children.firsts i (omega (arith, here))

  pub list_within : (i : ℕ) → i < length root.items.items → (children_of root).first (i + 1) ≤ length root.children.items
  list_within i here = tables.plan.children.firsts.within (i + 1) (omega (arith, here))

  list_content : (i : ℕ) (r : Numbers) → i < length root.items.items → HasPointer r (lists_at P + 4 * P.children.first i) (lists_at P + 4 * P.children.first (i + 1)) → HasContentAt file list_kind r
  list_content i r here pointer =
      let from = pointer.start_is in
      let to = pointer.end_is in
      let rise = list_rises i here in
      let within = list_within i here in
      let n = length-words (numbers_of root.children.items) in
      let m = length-map root.children.items (λ (c : ℕ × ℕ). c.1) in
      let inside = occurs_inside file (lists_at P) (words_bytes (numbers_of root.children.items)) (lists_occur root locks layout root_rows lock_rows file tables laid parts) in
      record {
        valid = record {
          ordered = omega (arith, from, to, rise);
          inside = omega (arith, to, within, n, m, inside);
          aligned = starts_whole (lists_at P) (P.children.first i) r.start (whole_4 _) from;
        };
        whole = λ list. run_is_whole (lists_at P) (P.children.first i) (P.children.first (i + 1)) r.start r.end from to;
      }

  -- ---- the table of locks

  table_content : (r : Numbers) → 0 < length locks.items.items → HasPointer r (locks_at P) (lock_keys_at P) → HasContentAt file table_kind r
  table_content r some pointer =
      let from = pointer.start_is in
      let to = pointer.end_is in
      let fit = locks_fit root locks layout tables laid.is some in
      let n = file_length root locks layout root_rows lock_rows file tables laid parts in
      record {
        valid = record {
          ordered = omega (arith, from, to);
          inside = omega (arith, to, fit, n);
          aligned = ap (λ (n : ℕ). n % 4) from ∙ whole_4 _;
        };
        whole = λ list. absurd (omega (arith, list));
      }

  -- ---- of each item

  of_kind : (kind k : ℕ) (r : Numbers) → kind ≡ k → HasContentAt file k r → HasContentAt file kind r
  of_kind kind k r is content = subst (λ (n : ℕ). HasContentAt file n r) (sym is) content

  root_content : (i : ℕ) → i < length root.items.items → IsKind (kind_at root.items.items i) → HasContentAt file (kind_at root.items.items i) (row root_rows i)
  root_content i here (inl v) = of_kind _ value_kind _ v (value_content (P.value i) (row root_rows i) (laid.root_values i here v))
  root_content i here (inr (inl l)) = of_kind _ list_kind _ l (list_content i (row root_rows i) here (laid.lists i here l))
  root_content i here (inr (inr h)) =
      let some = table_has_locks tables.settings P i tables.are_settings tables.plan here h in
      of_kind _ table_kind _ h (table_content (row root_rows i) some (laid.tables i here h some))

  pub root_contents : (i : ℕ) → i < length root.items.items → HasContentAt file (kind_at root.items.items i) (row root_rows i)
  root_contents i here = root_content i here (tables.plan.entries.each i here).of_kind

  pub lock_contents : (i : ℕ) → i < length locks.items.items → HasContentAt file (kind_at locks.items.items i) (row lock_rows i)
  lock_contents i here =
      of_kind _ value_kind _ (tables.plan.locks i here).value (value_content nothing_bytes (row lock_rows i) (laid.lock_values i here))

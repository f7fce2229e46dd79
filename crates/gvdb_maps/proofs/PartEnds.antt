-- Where the parts of a file end that are written one after another: where the plan says.
use Rattle.std.proofs.lemmas.Grind.{common_steps}
use Rattle.std.proofs.Common.{◌≡◌, ◌<◌, ◌≤◌, ◌+◌, ◌*◌, ℕ, List, [], ◌++◌, length, sym, ap, ◌∙◌, subst, arith, inl, inr, ⊎_elim, Bor, length-append}
use Rattle.std.proofs.lemmas.Bool.{cases_lt}
use Rattle.std.proofs.lemmas.List.{length-map}
use Rattle.gv_model.specs.Layout.{round_up}
use Rattle.gv_model.specs.Limits.{limit}
use Rattle.dconf_model.specs.Plans.{Plan, size_of_table, keys_end, values_end, root_end, length_of, all_values, once_each}
use Rattle.dconf_model.specs.TableBytes.{words_bytes, header_bytes}
use Rattle.dconf_model.proofs.HeaderBytes.{length-header}
use Rattle.dconf_model.proofs.PlanEnds.{keys_rise, lists_rise, all_lists_end, locks_rise, some_locks_end, no_locks_end}
use Rattle.gvdb_format.specs.declared.record.ItemRecord.{ItemRecord as Numbers}
use Rattle.gvdb_maps.specs.declared.contents.Contents.{Contents}
use Rattle.gvdb_maps.specs.declared.layout.Layout.{Layout}
use Rattle.gvdb_maps.specs.declared.table.TablePlan.{TablePlan}
use Rattle.gvdb_maps.specs.PlanWords.{entries_of, plan_of}
use Rattle.gvdb_maps.specs.LayoutParts.{AreRecords, root_keys_at, lists_at, locks_at, lock_keys_at, values_at}
use Rattle.gvdb_values.specs.WrittenValues.{bytes_of_each, with_padding}
use Rattle.gvdb_maps.specs.PlannedTables.{IsLayoutOf, AreTables}
use Rattle.gvdb_maps.specs.WrittenParts.{HaveNumbers, HasItsTable, HasTable, HasTableOfLocks, numbers_of}
use Rattle.gvdb_values.proofs.WithValues.{values_rise}
use Rattle.gvdb_maps.proofs.TableWritten.{length-padded_4, length-words, table_length, few_items}

-- the lists come after the root table
abbrev pub with_lists : TablePlan → List ℕ → List ℕ
with_lists root with_root = with_padding 4 with_root ++ words_bytes (numbers_of root.children.items)

pub header_ends : (start end : ℕ) → round_up 4 (length (header_bytes start end)) ≡ 24
unfolding round_up
header_ends start end = let n = length-header start end in omega (arith, n)

pub header_long : (start end : ℕ) (first header : List ℕ) → first ≡ [] → header ≡ first ++ header_bytes start end → length header ≤ limit
header_long start end first header none is = grind (arith, common_steps, length-header)

module _ (root locks : TablePlan) (layout : Layout) (tables : AreTables root locks) (laid : IsLayoutOf root locks layout) where
  abbrev P : Plan
  P = plan_of root locks

  -- ---- by the plan

  lists_are_all : root_end P ≡ lists_at P + 4 * length root.children.items
  lists_are_all =
      all_lists_end P.root P.children (keys_end P.root (root_keys_at P) P.root.count) tables.top.0 tables.plan.entries tables.plan.places tables.plan.children tables.top.1 tables.top.2

  root_below : keys_end P.root (root_keys_at P) P.root.count ≤ root_end P
  root_below = lists_rise P.root P.children (keys_end P.root (root_keys_at P) P.root.count) P.root.count

  lists_below : root_end P ≤ values_at P
  lists_below = locks_rise P.locks (root_end P)

  locks_below : values_at P ≤ length_of P
  locks_below = values_rise (once_each (all_values P)) (values_at P)

  pub root_fits : root_keys_at (plan_of root locks) ≤ length_of (plan_of root locks)
  root_fits =
      let a = keys_rise P.root (root_keys_at P) P.root.count in
      let b = root_below in
      let c = lists_below in
      let d = locks_below in
      omega (arith, a, b, c, d)

  pub locks_fit : 0 < length locks.items.items → lock_keys_at (plan_of root locks) ≤ length_of (plan_of root locks)
  locks_fit some = grind (arith, common_steps, keys_rise, some_locks_end, locks_below)

  pub few_root : 28 * length root.items.items ≤ limit
  few_root = few_items 24 (length root.items.items) (length_of P) root_fits laid.within

  pub few_locks : 28 * length locks.items.items ≤ limit
  few_locks =
      ⊎_elim
      (λ (some : 0 < length locks.items.items). few_items (locks_at P) (length locks.items.items) (length_of P) (locks_fit some) laid.within)
      (λ (le : length locks.items.items ≤ 0). omega (arith, le))
      (cases_lt 0 (length locks.items.items))

  pub have_children : HaveNumbers root.children.items
  have_children k here =
      let within = (tables.plan.children.children k here).0 in
      let few = few_root in
      omega (arith, within, few)

  -- the keys of the root table end in the file, and so do the lists
  pub root_keys_fit : keys_end (entries_of root.items.items) layout.root.end (length root.items.items) ≤ limit
  root_keys_fit =
      let at = ap (λ (n : ℕ). keys_end P.root n P.root.count) laid.end_is in
      let a = root_below in
      let b = lists_below in
      let c = locks_below in
      let d = laid.within in
      omega (arith, at, a, b, c, d)

  pub lists_fit : layout.lists + 4 * length root.children.items ≤ limit
  lists_fit =
      let at = laid.lists_is in
      let a = lists_are_all in
      let b = lists_below in
      let c = locks_below in
      let d = laid.within in
      omega (arith, at, a, b, c, d)

  -- ---- as they are written

  abbrev Header : List ℕ
  Header = header_bytes layout.root.start layout.root.end

  module _ (rows : List Numbers) (are : AreRecords root.items.items (root_keys_at P) rows) where
    pub root_long : (with_root : List ℕ) → HasTable root rows (header_bytes layout.root.start layout.root.end) with_root → length with_root ≡ keys_end (entries_of root.items.items) (root_keys_at (plan_of root locks)) (length root.items.items)
    root_long with_root has =
        table_length root rows (root_keys_at P) tables.root_items are Header with_root has
        ∙ ap (λ (n : ℕ). keys_end (entries_of root.items.items) (n + size_of_table (length root.items.items)) (length root.items.items)) (header_ends layout.root.start layout.root.end)

    pub root_within : (with_root : List ℕ) → HasTable root rows (header_bytes layout.root.start layout.root.end) with_root → length with_root ≤ limit
    root_within with_root has =
        let long = root_long with_root has in
        let a = root_below in
        let b = lists_below in
        let c = locks_below in
        let d = laid.within in
        omega (arith, long, a, b, c, d)

  pub lists_long : (with_root : List ℕ) → length with_root ≡ keys_end (entries_of root.items.items) (root_keys_at (plan_of root locks)) (length root.items.items) → length (with_lists root with_root) ≡ root_end (plan_of root locks)
  lists_long with_root long = grind (arith, common_steps, length-append, length-map, length-padded_4, length-words, lists_are_all)

  pub lists_within : (lists : List ℕ) → length lists ≡ root_end (plan_of root locks) → length lists ≤ limit
  lists_within lists long =
      let b = lists_below in
      let c = locks_below in
      let d = laid.within in
      omega (arith, long, b, c, d)

  module _ (rows : List Numbers) (are : 0 < length locks.items.items → AreRecords locks.items.items (lock_keys_at P) rows) where
    pub locks_long : (before after : List ℕ) → length before ≡ root_end (plan_of root locks) → HasTableOfLocks locks rows before after → length after ≡ values_at (plan_of root locks)
    locks_long before after long (inl has) =
        table_length locks rows (lock_keys_at P) tables.lock_items (are has.0) before after has.1
        ∙ (ap (λ (n : ℕ). keys_end P.locks (round_up 4 n + size_of_table P.locks.count) P.locks.count) long
        ∙ sym (some_locks_end P.locks (root_end P) has.0))
    locks_long before after long (inr none) = ap length none.1 ∙ (long ∙ sym (no_locks_end P.locks (root_end P) none.0))

  -- the values end where the file does
  pub values_long : (n : ℕ) → n ≡ values_at (plan_of root locks) → values_end n (bytes_of_each layout.values.distinct.items) ≡ length_of (plan_of root locks)
  values_long n long = ap (λ (m : ℕ). values_end m (bytes_of_each layout.values.distinct.items)) long ∙ ap (λ (vs : List (List ℕ)). values_end (values_at P) vs) laid.values

  pub values_within : (n : ℕ) (values : List (Bor (List ℕ))) → n ≡ values_at (plan_of root locks) → values ≡ layout.values.distinct.items → values_end n (bytes_of_each values) ≤ limit
  values_within n values long same =
      let end : values_end n (bytes_of_each values) ≡ length_of P = ap (λ (vs : List (Bor (List ℕ))). values_end n (bytes_of_each vs)) same ∙ values_long n long in
      let d = laid.within in
      omega (arith, end, d)

  -- ---- as the code gives it

  module _ (c : Contents) (with_root : List ℕ) (has : HasItsTable HasTable root layout.root.end c (header_bytes layout.root.start layout.root.end) with_root) where
    root_records : AreRecords root.items.items (root_keys_at P) has.rows
    root_records = subst (λ (n : ℕ). AreRecords root.items.items n has.rows) laid.end_is has.are.are

    pub root_given : length with_root ≤ limit
    root_given = root_within has.rows root_records with_root has.written

    pub lists_given : (listed : List ℕ) → listed ≡ with_lists root with_root → length listed ≡ root_end (plan_of root locks)
    lists_given listed is = ap length is ∙ lists_long with_root (root_long has.rows root_records with_root has.written)

  pub locks_given : (c : Contents) (listed with_locks : List ℕ) → length listed ≡ root_end (plan_of root locks) → HasItsTable HasTableOfLocks locks layout.locks.end c listed with_locks → length with_locks ≡ values_at (plan_of root locks)
  locks_given c listed with_locks long has =
      locks_long has.rows (λ some. subst (λ (n : ℕ). AreRecords locks.items.items n has.rows) (laid.locks_end_is some) has.are.are) listed with_locks long has.written

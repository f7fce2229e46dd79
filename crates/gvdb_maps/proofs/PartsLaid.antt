-- A file whose parts are written one after another is a database that is laid by its plan.
use Rattle.std.proofs.Common.{◌≡◌, ◌<◌, ◌+◌, ◌/◌, ℕ, List, length, refl, sym, ap, ◌∙◌, subst, arith, codes}
use Rattle.std.proofs.Math.ListN.{get_or-map}
use Rattle.std.proofs.lemmas.List.{length-map}
use Rattle.dconf_model.specs.Table.{Table as Place, Item, item, value_kind, list_kind, bytes_of, table_of}
use Rattle.dconf_model.specs.Entries.{IsLaidOut, IsLaidList, AreLaidLocks}
use Rattle.dconf_model.specs.Plans.{Plan, IsLaidBy, HaveEmptyStrings, nothing_bytes}
use Rattle.dconf_model.specs.TableBytes.{OccursAt, ItemRecord}
use Rattle.dconf_model.specs.TableEncoding.{IsWritten}
use Rattle.dconf_model.proofs.HeaderBytes.{same_table, root_is, is_database}
use Rattle.dconf_model.proofs.TableNumbers.{item_of_row, has_items}
use Rattle.dconf_model.proofs.EncodedTable.{row_at, written_is_laid, bytes_are, list_is_laid}
use Rattle.dconf_model.proofs.PlanLocks.{locks_kind, table_has_locks}
use Rattle.gvdb_format.specs.declared.record.ItemRecord.{ItemRecord as Numbers}
use Rattle.gvdb_maps.specs.declared.layout.Layout.{Layout}
use Rattle.gvdb_maps.specs.declared.table.TablePlan.{TablePlan}
use Rattle.gvdb_maps.specs.PlanWords.{plan_of}
use Rattle.gvdb_maps.specs.LayoutParts.{row, root_keys_at, lists_at, locks_at, lock_keys_at}
use Rattle.gvdb_maps.specs.WrittenParts.{records_of, numbers_of}
use Rattle.gvdb_maps.specs.PlannedTables.{AreTables, IsFileOf}
use Rattle.gvdb_maps.proofs.TableWritten.{is_written, row_is}
use Rattle.gvdb_maps.proofs.PartEnds.{root_fits, locks_fit, few_root, few_locks}
use Rattle.gvdb_maps.proofs.WholeLayout.{IsLaid}
use Rattle.gvdb_maps.proofs.PartPlaces.{AreParts, file_length, header_occurs, root_occurs, lists_occur, locks_table, locks_occur}
use Rattle.gvdb_maps.proofs.PartContents.{whole_4, placed_occurs, placed_ends, list_rises, list_within, root_contents, lock_contents}

some_words : (n words : ℕ) → 0 < n → words ≡ (n + 15) / 16 → 0 < words
some_words n words l e = omega (arith, l, e)

module _ (root locks : TablePlan) (layout : Layout) (root_rows lock_rows : List Numbers) (file : List ℕ) (tables : AreTables root locks) (laid : IsLaid root locks layout root_rows lock_rows) (parts : AreParts root locks layout root_rows lock_rows file) where
  abbrev P : Plan
  P = plan_of root locks

  abbrev Root : Place
  Root = record { file = file; start = 24; end = root_keys_at P }

  abbrev Locked : Place
  Locked = record { file = file; start = locks_at P; end = lock_keys_at P }

  abbrev Rows : List ItemRecord
  Rows = records_of root_rows

  -- ---- the root table

  root_written : IsWritten Root P.root parts.root_table.words root.buckets.items Rows
  root_written =
      is_written root root_rows file 24 tables.root_items laid.root_records (few_root root locks layout tables laid.is) parts.root_table.words parts.root_table.counted parts.root_table.bits
      (root_occurs root locks layout root_rows lock_rows file tables laid parts) (root_contents root locks layout root_rows lock_rows file tables laid parts)

  root_laid : IsLaidOut Root P.root
  root_laid =
      let here = tables.top.1 in
      written_is_laid Root P.root parts.root_table.words root.buckets.items Rows root_written tables.plan.entries
      (some_words (length root.items.items) (length parts.root_table.words) (omega (arith, here)) parts.root_table.counted)

  -- the lists

  root_list : (i : ℕ) → i < length root.items.items → (P.root.entry i).kind ≡ list_kind → IsLaidList Root P.children i
  root_list i here kind =
      let pointer = laid.lists i here kind in
      let is = row_is root_rows i in
      list_is_laid Root P.root P.children parts.root_table.words root.buckets.items Rows (lists_at P) i (numbers_of root.children.items) root_written tables.plan.entries here
      (lists_occur root locks layout root_rows lock_rows file tables laid parts) (length-map root.children.items (λ (m : ℕ × ℕ). m.1))
      (λ k l. get_or-map (λ (m : ℕ × ℕ). m.1) root.children.items k (0, 0))
      (list_rises root locks layout root_rows lock_rows file tables laid parts i here) (list_within root locks layout root_rows lock_rows file tables laid parts i here)
      (ap (λ (r : ItemRecord). r.start) is ∙ pointer.start_is) (ap (λ (r : ItemRecord). r.end) is ∙ pointer.end_is)

  -- the values

  root_value : (i : ℕ) → i < length root.items.items → (P.root.entry i).kind ≡ value_kind → bytes_of Root i ≡ P.value i
  root_value i here kind =
      let placed = laid.root_values i here kind in
      let r = row root_rows i in
      let is = row_is root_rows i in
      bytes_are Root P.root parts.root_table.words root.buckets.items Rows i (P.value i) root_written tables.plan.entries here
      (subst (λ (x : ItemRecord). OccursAt file x.start (P.value i)) (sym is) (placed_occurs root locks layout root_rows lock_rows file tables laid parts (P.value i) r placed))
      (subst (λ (x : ItemRecord). x.end ≡ x.start + length (P.value i)) (sym is) (placed_ends root locks layout root_rows lock_rows file tables laid parts (P.value i) r placed))

  -- ---- the table of locks

  locks_written : (some : 0 < length locks.items.items) → IsWritten Locked P.locks (locks_table root locks layout root_rows lock_rows file tables laid parts some).words locks.buckets.items (records_of lock_rows)
  locks_written some =
      let table = locks_table root locks layout root_rows lock_rows file tables laid parts some in
      is_written locks lock_rows file (locks_at P) tables.lock_items (laid.lock_records some) (few_locks root locks layout tables laid.is) table.words table.counted table.bits
      (locks_occur root locks layout root_rows lock_rows file tables laid parts some) (lock_contents root locks layout root_rows lock_rows file tables laid parts)

  locks_laid : 0 < length locks.items.items → AreLaidLocks Locked P.locks
  locks_laid some =
      let table = locks_table root locks layout root_rows lock_rows file tables laid parts some in
      let written = locks_written some in
      let fit = locks_fit root locks layout tables laid.is some in
      let n = file_length root locks layout root_rows lock_rows file tables laid parts in
      record {
        opens = record {
          head = record { inside = omega (arith, fit, n); aligned = whole_4 _; head = omega arith };
          items = has_items Locked table.words locks.buckets.items (records_of lock_rows) written.table;
        };
        laid = written_is_laid Locked P.locks table.words locks.buckets.items (records_of lock_rows) written tables.plan.lock_entries
            (some_words (length locks.items.items) (length table.words) some table.counted);
        entries = tables.plan.lock_entries;
        locks = tables.plan.locks;
      }

  -- each lock's value is the empty string
  lock_value : (some : 0 < length locks.items.items) → HaveEmptyStrings Locked
  lock_value some j here =
      let table = locks_table root locks layout root_rows lock_rows file tables laid parts some in
      let written = locks_written some in
      let inside : j < length locks.items.items = subst (λ (n : ℕ). j < n) (locks_laid some).laid.counted here in
      let placed = laid.lock_values j inside in
      let r = row lock_rows j in
      let is = row_is lock_rows j in
      bytes_are Locked P.locks table.words locks.buckets.items (records_of lock_rows) j nothing_bytes written tables.plan.lock_entries inside
      (subst (λ (x : ItemRecord). OccursAt file x.start nothing_bytes) (sym is) (placed_occurs root locks layout root_rows lock_rows file tables laid parts nothing_bytes r placed))
      (subst (λ (x : ItemRecord). x.end ≡ x.start + length nothing_bytes) (sym is) (placed_ends root locks layout root_rows lock_rows file tables laid parts nothing_bytes r placed))

  -- ---- the item `.locks` points to it

  root_locks : (i : ℕ) → i < length root.items.items → (P.root.entry i).name ≡ codes ".locks" → (0 < length locks.items.items) × (table_of Root i ≡ Locked)
  root_locks i here name =
      let kind = locks_kind tables.settings P i tables.are_settings tables.plan here name in
      let some = table_has_locks tables.settings P i tables.are_settings tables.plan here kind in
      let pointer = laid.tables i here kind some in
      let is = row_at Root P.root parts.root_table.words root.buckets.items Rows i root_written tables.plan.entries here ∙ ap item_of_row (row_is root_rows i) in (
        some,
        same_table file (item Root i).start (locks_at P) (item Root i).end (lock_keys_at P)
            (ap (λ (x : Item). x.start) is ∙ pointer.start_is) (ap (λ (x : Item). x.end) is ∙ pointer.end_is),
      )

  -- ---- all of it

  root_by : IsLaidBy Root P
  root_by = record {
    laid = record {
      laid = root_laid;
      entries = tables.plan.entries;
      root = tables.plan.places;
      children = tables.plan.children;
      lists = root_list;
      locks = λ i here name.
          let points = root_locks i here name in
          subst (λ (t : Place). AreLaidLocks t P.locks) (sym points.1) (locks_laid points.0);
    };
    values = root_value;
    lock_values = λ i here name.
        let points = root_locks i here name in
        subst HaveEmptyStrings (sym points.1) (lock_value points.0);
  }

  pub is_file : IsFileOf root locks file
  is_file =
      let fit = root_fits root locks layout tables laid.is in
      let n = file_length root locks layout root_rows lock_rows file tables laid parts in
      let header = header_occurs root locks layout root_rows lock_rows file tables laid parts in
      record {
        opens = is_database file 24 (root_keys_at P) parts.root_table.words root.buckets.items Rows header refl (omega (arith, fit, n)) root_written.table;
        laid = subst (λ (t : Place). IsLaidBy t P) (sym (root_is file 24 (root_keys_at P) header)) root_by;
        whole = n;
      }

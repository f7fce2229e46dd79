-- The parts of a file that are written one after another are where the plan says.
use Rattle.std.proofs.lemmas.Grind.{common_steps}
use Rattle.std.proofs.Common.{◌≡◌, ◌<◌, ℕ, List, [], ◌++◌, length, get_or, sym, ap, ◌∙◌, subst, arith, inl, inr}
use Rattle.gv_model.specs.Layout.{round_up}
use Rattle.dconf_model.specs.Plans.{Plan, keys_end, root_end, length_of, all_values, once_each}
use Rattle.dconf_model.specs.TableBytes.{OccursAt, words_bytes, header_bytes, table_bytes}
use Rattle.dconf_model.proofs.Occurrences.{occurs_at, occurs_last}
use Rattle.gvdb_format.specs.declared.record.ItemRecord.{ItemRecord as Numbers}
use Rattle.gvdb_maps.specs.declared.contents.Contents.{Contents}
use Rattle.gvdb_maps.specs.declared.layout.Layout.{Layout}
use Rattle.gvdb_maps.specs.declared.table.TablePlan.{TablePlan}
use Rattle.gvdb_maps.specs.PlanWords.{plan_of}
use Rattle.gvdb_maps.specs.LayoutParts.{root_keys_at, lists_at, locks_at, values_at, value_start}
use Rattle.gvdb_values.specs.WrittenValues.{bytes_of_each, with_padding, with_values}
use Rattle.gvdb_maps.specs.WrittenParts.{HasTable, HasItsTable, HasTableOfLocks, keys_bytes, records_of, numbers_of}
use Rattle.gvdb_maps.specs.PlannedTables.{AreTables}
use Rattle.gvdb_values.proofs.WithValues.{length-with_values, occurs_before, value_occurs}
use Rattle.gvdb_maps.proofs.TableWritten.{length-padded_4, table_occurs}
use Rattle.gvdb_maps.proofs.WholeLayout.{IsLaid}
use Rattle.gvdb_maps.proofs.PartEnds.{with_lists, header_ends, root_long, lists_long, locks_long, values_long}

-- what is written: the header, the root table, its lists, the table of locks, the values
pub record AreParts (root locks : TablePlan) (layout : Layout) (root_rows lock_rows : List Numbers) (file : List ℕ) : Type 0 where
  pub with_root : List ℕ
  pub listed : List ℕ
  pub with_locks : List ℕ
  pub root_table : HasTable root root_rows (header_bytes layout.root.start layout.root.end) with_root
  pub lists : listed ≡ with_lists root with_root
  pub lock_table : HasTableOfLocks locks lock_rows listed with_locks
  pub values : file ≡ with_values with_locks (bytes_of_each layout.values.distinct.items)

-- ---- as the code gives it

pub root_there : (root : TablePlan) (keys_at : ℕ) (c : Contents) (first header bytes with_root : List ℕ) → first ≡ [] → header ≡ first ++ bytes → HasItsTable HasTable root keys_at c header with_root → HasItsTable HasTable root keys_at c bytes with_root
root_there root keys_at c first header bytes with_root none is has =
    subst (λ (l : List ℕ). HasItsTable HasTable root keys_at c l with_root) (is ∙ ap (λ (l : List ℕ). l ++ bytes) none) has

pub lists_there : (root : TablePlan) (children : List (ℕ × ℕ)) (with_root after : List ℕ) → children ≡ root.children.items → after ≡ with_padding 4 with_root ++ words_bytes (numbers_of children) → after ≡ with_lists root with_root
lists_there root children with_root after same is = is ∙ ap (λ (cs : List (ℕ × ℕ)). with_padding 4 with_root ++ words_bytes (numbers_of cs)) same

-- ---- what was there before is still there

still_padded : (file : List ℕ) (at : ℕ) (bytes more : List ℕ) → OccursAt file at bytes → OccursAt (with_padding 4 file ++ more) at bytes
still_padded file at bytes more s = grind (arith, common_steps)

still_before_table : (t : TablePlan) (rows : List Numbers) (before after : List ℕ) (at : ℕ) (bytes : List ℕ) → HasTable t rows before after → OccursAt before at bytes → OccursAt after at bytes
still_before_table t rows before after at bytes has s = grind (arith, common_steps)

still_before_locks : (t : TablePlan) (rows : List Numbers) (before after : List ℕ) (at : ℕ) (bytes : List ℕ) → HasTableOfLocks t rows before after → OccursAt before at bytes → OccursAt after at bytes
still_before_locks t rows before after at bytes (inl has) s = still_before_table t rows before after at bytes has.1 s
still_before_locks t rows before after at bytes (inr none) s = subst (λ (f : List ℕ). OccursAt f at bytes) (sym none.1) s

some_table : (t : TablePlan) (rows : List Numbers) (before after : List ℕ) → 0 < length t.items.items → HasTableOfLocks t rows before after → HasTable t rows before after
some_table t rows before after some (inl has) = has.1
some_table t rows before after some (inr none) = let e = none.0 in absurd (omega (arith, some, e))

-- ---- where each is

module _ (root locks : TablePlan) (layout : Layout) (root_rows lock_rows : List Numbers) (file : List ℕ) (tables : AreTables root locks) (laid : IsLaid root locks layout root_rows lock_rows) (parts : AreParts root locks layout root_rows lock_rows file) where
  abbrev P : Plan
  P = plan_of root locks

  root_ends : length parts.with_root ≡ keys_end P.root (root_keys_at P) P.root.count
  root_ends = root_long root locks layout tables laid.is root_rows laid.root_records parts.with_root parts.root_table

  lists_end_there : length parts.listed ≡ root_end P
  lists_end_there = ap length parts.lists ∙ lists_long root locks layout tables laid.is parts.with_root root_ends

  locks_end_there : length parts.with_locks ≡ values_at P
  locks_end_there = locks_long root locks layout tables laid.is lock_rows laid.lock_records parts.listed parts.with_locks lists_end_there parts.lock_table

  pub file_length : length file ≡ length_of (plan_of root locks)
  file_length =
      ap length parts.values
      ∙ (length-with_values (bytes_of_each layout.values.distinct.items) parts.with_locks
      ∙ values_long root locks layout tables laid.is (length parts.with_locks) locks_end_there)

  from_locks : (at : ℕ) (bytes : List ℕ) → OccursAt parts.with_locks at bytes → OccursAt file at bytes
  from_locks at bytes s =
      subst (λ (f : List ℕ). OccursAt f at bytes) (sym parts.values) (occurs_before (bytes_of_each layout.values.distinct.items) parts.with_locks at bytes s)

  from_lists : (at : ℕ) (bytes : List ℕ) → OccursAt (with_lists root parts.with_root) at bytes → OccursAt file at bytes
  from_lists at bytes s =
      from_locks at bytes
      (still_before_locks locks lock_rows parts.listed parts.with_locks at bytes parts.lock_table
      (subst (λ (f : List ℕ). OccursAt f at bytes) (sym parts.lists) s))

  from_root : (at : ℕ) (bytes : List ℕ) → OccursAt parts.with_root at bytes → OccursAt file at bytes
  from_root at bytes s = from_lists at bytes (still_padded parts.with_root at bytes (words_bytes (numbers_of root.children.items)) s)

  pub header_occurs : OccursAt file 0 (header_bytes 24 (root_keys_at (plan_of root locks)))
  header_occurs =
      let header = header_bytes layout.root.start layout.root.end in
      let is : header ≡ header_bytes 24 (root_keys_at P) = ap (λ (n : ℕ). header_bytes n layout.root.end) laid.is.start_is ∙ ap (λ (n : ℕ). header_bytes 24 n) laid.is.end_is in
      subst (λ (b : List ℕ). OccursAt file 0 b) is
      (from_root 0 header (still_before_table root root_rows header parts.with_root 0 header parts.root_table (occurs_last [] header)))

  pub root_occurs : OccursAt file 24 (table_bytes parts.root_table.words root.buckets.items (records_of root_rows) ++ keys_bytes root.items.items)
  root_occurs =
      let bytes = table_bytes parts.root_table.words root.buckets.items (records_of root_rows) ++ keys_bytes root.items.items in
      let header = header_bytes layout.root.start layout.root.end in
      from_root 24 bytes
      (occurs_at parts.with_root (round_up 4 (length header)) 24 bytes (header_ends layout.root.start layout.root.end)
      (table_occurs root root_rows (root_keys_at P) tables.root_items laid.root_records header parts.with_root parts.root_table))

  pub lists_occur : OccursAt file (lists_at (plan_of root locks)) (words_bytes (numbers_of root.children.items))
  lists_occur =
      let words = words_bytes (numbers_of root.children.items) in
      from_lists (lists_at P) words
      (occurs_at (with_lists root parts.with_root) (length (with_padding 4 parts.with_root)) (lists_at P) words (length-padded_4 parts.with_root ∙ ap (round_up 4) root_ends)
      (occurs_last (with_padding 4 parts.with_root) words))

  pub locks_table : 0 < length locks.items.items → HasTable locks lock_rows parts.listed parts.with_locks
  locks_table some = some_table locks lock_rows parts.listed parts.with_locks some parts.lock_table

  pub locks_occur : (some : 0 < length locks.items.items) → OccursAt file (locks_at (plan_of root locks)) (table_bytes (locks_table some).words locks.buckets.items (records_of lock_rows) ++ keys_bytes locks.items.items)
  locks_occur some =
      let bytes = table_bytes (locks_table some).words locks.buckets.items (records_of lock_rows) ++ keys_bytes locks.items.items in
      let before = parts.listed in
      from_locks (locks_at P) bytes
      (occurs_at parts.with_locks (round_up 4 (length before)) (locks_at P) bytes (ap (round_up 4) lists_end_there)
      (table_occurs locks lock_rows _ tables.lock_items (laid.lock_records some) before parts.with_locks (locks_table some)))

  -- each value, at the place that is laid for it
  pub value_in : (k : ℕ) → k < length (once_each (all_values (plan_of root locks))) → OccursAt file (value_start (values_at (plan_of root locks)) (once_each (all_values (plan_of root locks))) k) (get_or (once_each (all_values (plan_of root locks))) k [])
  value_in k here =
      let values = once_each (all_values P) in
      let is : file ≡ with_values parts.with_locks values = parts.values ∙ ap (λ (vs : List (List ℕ)). with_values parts.with_locks vs) laid.is.values in
      let at : value_start (length parts.with_locks) values k ≡ value_start (values_at P) values k = ap (λ (n : ℕ). value_start n values k) locks_end_there in
      occurs_at file (value_start (length parts.with_locks) values k) (value_start (values_at P) values k) (get_or values k []) at
      (subst (λ (f : List ℕ). OccursAt f (value_start (length parts.with_locks) values k) (get_or values k [])) (sym is)
      (value_occurs values k parts.with_locks here))

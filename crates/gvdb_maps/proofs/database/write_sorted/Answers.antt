use Rattle.std.proofs.lemmas.Result.{IfOk-weaker, err_from_is_err_and}
use Rattle.gvdb_maps.proofs.SortedEntries.{settings_in}
use Rattle.gvdb_maps.proofs.TablesReady.{refused, file_is_sound, file_holds_values, file_holds_locks, file_has_length, file_fits}
use Rattle.gvdb_maps.proofs.database.write_sorted.Goals as goal

-- ---- the layout

pub new-requires-clause-root : goal.new-requires-clause-root
new-requires-clause-root c = c.in_ok-root.ensures.tables.root_items

pub new-requires-clause-locks : goal.new-requires-clause-locks
new-requires-clause-locks c = c.in_ok-root.ensures.tables.lock_items

pub new-requires-clause-nothing : goal.new-requires-clause-nothing
new-requires-clause-nothing c = c.in_ok-root.ensures.tables.are_locks

pub new-requires-clause-top : goal.new-requires-clause-top
new-requires-clause-top c = c.in_ok-root.ensures.tables.tables.top

pub new-requires-clause-children : goal.new-requires-clause-children
new-requires-clause-children c = c.in_ok-root.ensures.tables.plan.children

pub new-requires-clause-entries : goal.new-requires-clause-entries
new-requires-clause-entries c = c.in_ok-root.ensures.tables.plan.places

pub returns-in_err-layout-clause-fault : goal.returns-in_err-layout-clause-fault
returns-in_err-layout-clause-fault c =
    let p = err_from_is_err_and c.from_residual-in_err-layout.result c.from_residual-in_err-layout.ensures.1 in
    rw (p.1, p.2) (refused (settings_in c.args.sorted) c.in_ok-root.root c.in_ok-root.locks c.in_err-layout.field-0.0 c.in_ok-root.ensures.tables.plan c.in_err-layout.ensures.fault)

-- ---- the file

pub write_parts-requires-clause-tables : goal.write_parts-requires-clause-tables
write_parts-requires-clause-tables c = (_, c.in_ok-root.ensures.tables)

pub returns-clause-database : goal.returns-clause-database
returns-clause-database c =
    let s = settings_in c.args.sorted in
    let root = c.in_ok-root.root in
    let locks = c.in_ok-root.locks in
    let ready = c.in_ok-root.ensures.tables in
    IfOk-weaker c.write_parts.result _ _ (λ file is. record {
      opens = is.opens;
      sound = file_is_sound root locks file.items is;
      values = file_holds_values s root locks file.items ready is;
      locks = file_holds_locks s root locks file.items ready is;
      size = file_has_length s root locks file.items ready is;
      fits = file_fits root locks file.items is c.in_ok-layout.ensures.layout.within;
    }) c.write_parts.ensures.file

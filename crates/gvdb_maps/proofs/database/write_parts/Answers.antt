use Rattle.std.proofs.Common.{List, ℕ, sym, ap, ◌∙◌, subst, arith, Bor}
use Rattle.gvdb_values.specs.WrittenValues.{bytes_of_each, with_values}
use Rattle.gvdb_maps.specs.WrittenParts.{HaveNumbers}
use Rattle.gvdb_maps.proofs.KnownContents.{contents_are}
use Rattle.gvdb_maps.proofs.PartEnds.{header_long, root_fits, have_children, lists_within, values_within, root_given, lists_given, locks_given}
use Rattle.gvdb_maps.proofs.PartPlaces.{root_there, lists_there}
use Rattle.gvdb_maps.proofs.PartsLaid.{is_file}
use Rattle.gvdb_maps.proofs.WholeLayout.{is_laid}
use Rattle.gvdb_maps.proofs.WritableTables.{root_writable, locks_writable}
use Rattle.gvdb_maps.proofs.database.write_parts.Goals as goal

pub write_header-requires-clause-start : goal.write_header-requires-clause-start
write_header-requires-clause-start c = let is = c.requires.layout.start_is in omega (arith, is)

pub write_header-requires-clause-end : goal.write_header-requires-clause-end
write_header-requires-clause-end c =
    let laid = c.requires.layout in
    let is = laid.end_is in
    let fit = root_fits c.args.root.now c.args.locks.now c.args.layout.now c.requires.tables.1.tables laid in
    let within = laid.within in
    omega (arith, is, fit, within)

-- ---- the root table

pub write_table-requires-clause-out : goal.write_table-requires-clause-out
write_table-requires-clause-out c = header_long _ _ _ _ c.in_ok-out.ensures.items c.in_ok-write_header.ensures.bytes

pub write_table-requires-clause-table : goal.write_table-requires-clause-table
write_table-requires-clause-table c =
    root_writable _ c.args.root.now c.args.locks.now c.args.layout.now _ c.requires.tables.1 c.requires.layout
    (contents_are c.args.layout.now _ _ _ _ _ c.deref.ensures.value c.deref-2.ensures.value c.contents-contents.ensures)

-- ---- its lists

pub write_children-requires-clause-out : goal.write_children-requires-clause-out
write_children-requires-clause-out c =
    root_given c.args.root.now c.args.locks.now c.args.layout.now c.requires.tables.1.tables c.requires.layout _ c.write_table.new.out.items
    (root_there c.args.root.now _ _ _ _ _ c.write_table.new.out.items c.in_ok-out.ensures.items c.in_ok-write_header.ensures.bytes c.in_ok-write_table.ensures.bytes)

pub write_children-requires-clause-children : goal.write_children-requires-clause-children
write_children-requires-clause-children c =
    subst (λ (cs : List (ℕ × ℕ)). HaveNumbers cs) (sym c.deref-5.ensures.value)
    (have_children c.args.root.now c.args.locks.now c.args.layout.now c.requires.tables.1.tables c.requires.layout)

-- ---- the table of locks

pub write_locks-requires-clause-out : goal.write_locks-requires-clause-out
write_locks-requires-clause-out c =
    lists_within c.args.root.now c.args.locks.now c.args.layout.now c.requires.tables.1.tables c.requires.layout c.write_children.new.out.items
    (lists_given c.args.root.now c.args.locks.now c.args.layout.now c.requires.tables.1.tables c.requires.layout _ c.write_table.new.out.items
    (root_there c.args.root.now _ _ _ _ _ c.write_table.new.out.items c.in_ok-out.ensures.items c.in_ok-write_header.ensures.bytes c.in_ok-write_table.ensures.bytes)
    c.write_children.new.out.items (lists_there c.args.root.now c.deref-5.result.now c.write_table.new.out.items c.write_children.new.out.items c.deref-5.ensures.value c.in_ok-write_children.ensures.bytes))

pub write_locks-requires-clause-table : goal.write_locks-requires-clause-table
write_locks-requires-clause-table c =
    locks_writable _ c.args.root.now c.args.locks.now c.args.layout.now _ c.requires.tables.1 c.requires.layout
    (contents_are c.args.layout.now _ _ _ _ _ c.deref-3.ensures.value c.deref-4.ensures.value c.contents-lock_contents.ensures)

-- ---- the values

pub write_values-requires : goal.write_values-requires
write_values-requires c =
    let long = lists_given c.args.root.now c.args.locks.now c.args.layout.now c.requires.tables.1.tables c.requires.layout _ c.write_table.new.out.items
    (root_there c.args.root.now _ _ _ _ _ c.write_table.new.out.items c.in_ok-out.ensures.items c.in_ok-write_header.ensures.bytes c.in_ok-write_table.ensures.bytes)
    c.write_children.new.out.items (lists_there c.args.root.now c.deref-5.result.now c.write_table.new.out.items c.write_children.new.out.items c.deref-5.ensures.value c.in_ok-write_children.ensures.bytes) in
    values_within c.args.root.now c.args.locks.now c.args.layout.now c.requires.tables.1.tables c.requires.layout _ c.deref-6.result.now
    (locks_given c.args.root.now c.args.locks.now c.args.layout.now c.requires.tables.1.tables c.requires.layout _ c.write_children.new.out.items c.write_locks.new.out.items long c.in_ok-write_locks.ensures.bytes)
    c.deref-6.ensures.value

pub returns-clause-file : goal.returns-clause-file
returns-clause-file c =
    let root = c.args.root.now in
    let locks = c.args.locks.now in
    let layout = c.args.layout.now in
    let ready = c.requires.tables.1 in
    let table = root_there root _ _ _ _ _ c.write_table.new.out.items c.in_ok-out.ensures.items c.in_ok-write_header.ensures.bytes c.in_ok-write_table.ensures.bytes in
    let lock_table = c.in_ok-write_locks.ensures.bytes in
    let known = contents_are layout _ _ _ _ _ c.deref.ensures.value c.deref-2.ensures.value c.contents-contents.ensures in
    let locks_known = contents_are layout _ _ _ _ _ c.deref-3.ensures.value c.deref-4.ensures.value c.contents-lock_contents.ensures in
    is_file root locks layout table.rows lock_table.rows c.write_values.new.out.items ready.tables
    (is_laid root locks layout c.requires.layout c.contents-contents.result c.contents-lock_contents.result table.rows lock_table.rows ready.are_locks known locks_known table.are lock_table.are)
    (record {
      with_root = c.write_table.new.out.items;
      listed = c.write_children.new.out.items;
      with_locks = c.write_locks.new.out.items;
      root_table = table.written;
      lists = lists_there root c.deref-5.result.now c.write_table.new.out.items c.write_children.new.out.items c.deref-5.ensures.value c.in_ok-write_children.ensures.bytes;
      lock_table = lock_table.written;
      values = c.in_ok-write_values.ensures.bytes ∙ ap (λ (vs : List (Bor (List ℕ))). with_values c.write_locks.new.out.items (bytes_of_each vs)) c.deref-6.ensures.value;
    })

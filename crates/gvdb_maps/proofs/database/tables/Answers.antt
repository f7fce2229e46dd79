use Rattle.gvdb_maps.proofs.SortedEntries.{settings_in}
use Rattle.gvdb_maps.proofs.TablesReady.{ready}
use Rattle.gvdb_maps.proofs.database.tables.Goals as goal

pub returns-clause-tables : goal.returns-clause-tables
returns-clause-tables c =
    ready (settings_in c.args.sorted) c.in_ok-names.names.items c.in_ok-locked.locked.items c.in_ok-root.root c.in_ok-locks.locks c.args.sorted.settings
    c.in_ok-names.ensures.names c.in_ok-root.ensures.table c.in_ok-locked.ensures.names c.in_ok-locks.ensures.table

use Rattle.gvdb_check.proofs.locks.is_lock_table.Goals as goal

pub holds_locks-requires : goal.holds_locks-requires
holds_locks-requires c = record { keys = (c.is_searchable.ensures.0 c.if-is_searchable.true).good_key }

use Rattle.std.proofs.Common.{rules}
use Rattle.gvdb_maps.proofs.database.write_locks.Goals as goal

pub returns-then-is_empty : goal.returns-then-is_empty
returns-then-is_empty c = record { bytes = search rules }

pub returns : goal.returns
returns c = record { bytes = search rules }

use Rattle.std.proofs.Common.{rules}
use Rattle.gvdb_read.proofs.table.Table.is_wanted.Goals as goal

pub returns-then-has_kind-clause-wanted : goal.returns-then-has_kind-clause-wanted
returns-then-has_kind-clause-wanted c = search rules

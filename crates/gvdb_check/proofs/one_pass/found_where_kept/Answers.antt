use Rattle.std.proofs.Common.{rules}
use Rattle.gvdb_check.proofs.one_pass.found_where_kept.Goals as goal

pub returns-clause-listed : goal.returns-clause-listed
returns-clause-listed c = search rules

use Rattle.std.proofs.Common.{rules}
use Rattle.gvdb_write.proofs.salvaged.pointed_value.Goals as goal

pub returns-then-item-letter-clause-some : goal.returns-then-item-letter-clause-some
returns-then-item-letter-clause-some c = search rules

use Rattle.std.proofs.Common.{rules}
use Rattle.gvdb_read.proofs.hashed_name.HashedName.new.Goals as goal

pub invariant_of-result : goal.invariant_of-result
invariant_of-result c = search rules

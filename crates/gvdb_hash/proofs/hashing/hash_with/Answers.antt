use Rattle.std.proofs.Common.{rules}
use Rattle.gvdb_hash.proofs.hashing.hash_with.Goals as goal

pub returns : goal.returns
returns c = search rules

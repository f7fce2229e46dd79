use Rattle.std.proofs.Common.{rules}
use Rattle.gvdb_hash.proofs.hashing.hash_in_lanes.Goals as goal

pub loop-four-init : goal.loop-four-init
loop-four-init c = search rules

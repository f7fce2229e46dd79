use Rattle.gvdb_maps.proofs.KeyPaths.{none_kept}
use Rattle.gvdb_maps.proofs.map.Map.new.Goals as goal

pub invariant_of-result : goal.invariant_of-result
invariant_of-result c = none_kept c.new-values.result c.new-locks.result c.new-values.ensures.empty c.new-locks.ensures.empty

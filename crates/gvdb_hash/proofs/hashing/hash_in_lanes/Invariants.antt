use Rattle.std.proofs.Common.{◌≡◌, [], drop}
use Rattle.std.specs.Prelude.{fold}
use Rattle.dconf_model.specs.Bytes.{hash_of, hash_step}
use Rattle.gvdb_hash.specs.HashLanes.{lanes_hash}
use Rattle.gvdb_hash.proofs.hashing.hash_in_lanes.Given as goal

-- the sums so far, and what is left
abbrev pub invariant-loop-four : goal.invariant-loop-four
invariant-loop-four l = fold (fold hash_step) (lanes_hash l.lanes) (drop l.four-index l.fours) ≡ fold (fold hash_step) (hash_of []) l.fours

use Rattle.std.proofs.Common.{◌≡◌, drop}
use Rattle.std.specs.Prelude.{fold}
use Rattle.dconf_model.specs.Bytes.{hash_step}
use Rattle.gvdb_hash.proofs.hashing.hash_by_fours.Given as goal

-- the hash so far, and what is left
abbrev pub invariant-loop-four : goal.invariant-loop-four
invariant-loop-four l = fold (fold hash_step) l.hash (drop l.four-index l.fours) ≡ fold (fold hash_step) l.fn.hash l.fours

use Rattle.std.proofs.Common.{◌≡◌, drop}
use Rattle.std.specs.Prelude.{fold}
use Rattle.dconf_model.specs.Bytes.{hash_step}
use Rattle.gvdb_hash.proofs.hashing.hash_one_by_one.Given as goal

-- the hash so far, and what is left
abbrev pub invariant-loop-byte : goal.invariant-loop-byte
invariant-loop-byte l = fold hash_step l.hash (drop l.byte-index l.bytes) ≡ fold hash_step l.fn.hash l.bytes

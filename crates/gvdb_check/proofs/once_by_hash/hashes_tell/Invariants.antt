use Rattle.std.proofs.Common.{ℕ, ◌<◌}
use Rattle.gvdb_check.specs.OnePass.{OnlyNamedInPart}
use Rattle.gvdb_format.specs.Tables.{region}
use Rattle.gvdb_check.proofs.once_by_hash.hashes_tell.Given as goal

-- in the parts before this one each item is the only one of its name
abbrev pub invariant-loop-part : goal.invariant-loop-part
invariant-loop-part l = (p : ℕ) → p < l.part → OnlyNamedInPart (region l.fn.table) p l.parts

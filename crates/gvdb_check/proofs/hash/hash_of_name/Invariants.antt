use Rattle.std.proofs.Common.{◌≡◌, ◌+◌, ◌*◌, ◌%◌, ◌^◌}
use Rattle.std.specs.Prelude.{reverse}
use Rattle.dconf_model.specs.Bytes.{hash_of}
use Rattle.dconf_model.specs.Names.{full_name}
use Rattle.gvdb_check.specs.Backwards.{backwards_left}
use Rattle.gvdb_format.specs.Tables.{region}
use Rattle.gvdb_check.proofs.hash.hash_of_name.Given as goal

-- the name's hash is so many times that of the bytes that are left, and so much more
abbrev pub invariant-loop-byte : goal.invariant-loop-byte
invariant-loop-byte l =
    (goal.iterator-loop-byte).can_next l.byte-iterator ×
    (goal.iterator-loop-byte).is_finite l.byte-iterator ×
    ((hash_of (reverse (backwards_left l.byte-iterator)) * l.factor + l.sum) % 2 ^ 32 ≡ hash_of (full_name (region l.fn.table) l.fn.i))

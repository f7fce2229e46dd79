use Rattle.std.proofs.Common.{◌≡◌, ◌++◌, length, map}
use Rattle.dconf_notes.specs.Records.{noted_of, records_bytes}
use Rattle.dconf_notes.proofs.reading.records_read.Given as goal

-- the records so far, and the rest
abbrev pub invariant-loop-rest : goal.invariant-loop-rest
invariant-loop-rest l = l.fn.bytes ≡ records_bytes (map noted_of l.notes.items) ++ l.rest

abbrev pub decreases-loop-rest : goal.decreases-loop-rest
decreases-loop-rest l = length l.rest

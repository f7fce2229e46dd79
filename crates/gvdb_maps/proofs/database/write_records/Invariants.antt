use Rattle.gvdb_maps.proofs.LaidRows.{AreWrittenBelow}
use Rattle.gvdb_maps.proofs.database.write_records.Given as goal

abbrev pub invariant-loop-number : goal.invariant-loop-number
invariant-loop-number l = record { so_far : AreWrittenBelow l.items l.keys_at l.contents l.fn.out.items l.out.items l.key_start l.number }

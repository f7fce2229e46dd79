use Rattle.std.proofs.Common.{arith}
use Rattle.gvdb_check.specs.NotedItems.{Ends}
use Rattle.gvdb_format.specs.Tables.{region}
use Rattle.gvdb_check.proofs.NotedWalks.{none_are}
use Rattle.gvdb_check.proofs.chain.check_chains.Goals as goal

pub loop-i-init : goal.loop-i-init
loop-i-init c = record { kept = λ j lt. absurd (omega (arith, lt)); noted = none_are (Ends (region c.args.table)) _ c.none-noted.ensures }

use Rattle.gvdb_maps.specs.PlanWords.{name_at}
use Rattle.gvdb_maps.proofs.DirectorySteps.{IsUpFrom}
use Rattle.gvdb_maps.proofs.names.innermost.Given as goal

abbrev pub invariant-loop-parent : goal.invariant-loop-parent
invariant-loop-parent l = record { up : IsUpFrom l.names (name_at l.names l.directory) l.text l.at }

abbrev pub decreases-loop-parent : goal.decreases-loop-parent
decreases-loop-parent l = l.at

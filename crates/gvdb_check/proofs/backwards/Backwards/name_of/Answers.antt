use Rattle.gvdb_format.specs.Tables.{region}
use Rattle.gvdb_check.proofs.BackwardSteps.{all_joined}
use Rattle.gvdb_check.proofs.backwards.Backwards.name_of.Goals as goal

pub of-requires-clause-named : goal.of-requires-clause-named
of-requires-clause-named c = all_joined (region c.args.table) c.requires.keys c.requires.chain

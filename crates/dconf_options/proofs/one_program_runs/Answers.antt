use Rattle.dconf_options.proofs.ProgramProofs.{one_program_runs}
use Rattle.dconf_options.proofs.one_program_runs.Goals as goal

pub returns : goal.returns
returns c = one_program_runs

use Rattle.dconf_runs.proofs.CountedFiles.{files_count_alike}
use Rattle.dconf_runs.proofs.laws.files_count_alike.Goals as goal

pub returns : goal.returns
returns c = files_count_alike

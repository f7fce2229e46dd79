use Rattle.dconf_found.proofs.OneFile.{one_file}
use Rattle.dconf_found.proofs.a_line_means_one_file.Goals as goal

pub returns : goal.returns
returns c = one_file

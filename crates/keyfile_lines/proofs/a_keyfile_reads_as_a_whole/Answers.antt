use Rattle.keyfile_lines.proofs.WholeTexts.{reads_as_a_whole}
use Rattle.keyfile_lines.proofs.a_keyfile_reads_as_a_whole.Goals as goal

pub returns : goal.returns
returns c = reads_as_a_whole

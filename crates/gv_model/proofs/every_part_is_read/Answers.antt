use Rattle.gv_model.proofs.PartLaws.{every_part}
use Rattle.gv_model.proofs.every_part_is_read.Goals as goal

pub returns : goal.returns
returns c = every_part

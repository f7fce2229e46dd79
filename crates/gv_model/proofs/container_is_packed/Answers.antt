use Rattle.gv_model.proofs.WrittenLaws.{container_written}
use Rattle.gv_model.proofs.container_is_packed.Goals as goal

pub returns : goal.returns
returns c = container_written

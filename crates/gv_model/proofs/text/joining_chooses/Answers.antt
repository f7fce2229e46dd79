use Rattle.gv_model.proofs.PatternLaws.{choice_right}
use Rattle.gv_model.proofs.text.joining_chooses.Goals as goal

pub returns : goal.returns
returns c = choice_right

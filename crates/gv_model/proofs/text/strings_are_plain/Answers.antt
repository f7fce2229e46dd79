use Rattle.gv_model.proofs.PlainTextLaws.{tree_is_plain}
use Rattle.gv_model.proofs.text.strings_are_plain.Goals as goal

pub returns : goal.returns
returns c = tree_is_plain

use Rattle.dconf_model.proofs.WholeTexts.{texts_are_whole}
use Rattle.dconf_model.proofs.each_text_is_whole.Goals as goal

pub returns : goal.returns
returns c = texts_are_whole

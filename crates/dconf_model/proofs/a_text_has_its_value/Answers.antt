use Rattle.dconf_model.proofs.ValueLaws.{text_has_its_value, has_one_meaning}
use Rattle.dconf_model.proofs.a_text_has_its_value.Goals as goal

pub returns : goal.returns
returns c = record { is = text_has_its_value; alone = has_one_meaning }

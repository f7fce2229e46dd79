use Rattle.dconf_model.proofs.SettledLaws.{done_is_settled, put_is_settled}
use Rattle.dconf_model.proofs.what_is_done_is_settled.Goals as goal

pub returns : goal.returns
returns c = record { file = done_is_settled; databases = put_is_settled }

use Rattle.dconf_model.proofs.ReopenLaws.{reopened_is_same}
use Rattle.dconf_model.proofs.a_saved_store_is_seen_again.Goals as goal

pub returns : goal.returns
returns c = reopened_is_same

use Rattle.dconf_model.proofs.DatabaseLaws.{says_one_thing, written_says_settings}
use Rattle.dconf_model.proofs.SettingsIn.{says_what_is_in_it, says_settings}
use Rattle.dconf_model.proofs.a_file_says_its_settings.Goals as goal

pub returns : goal.returns
returns c = record { is = says_what_is_in_it; paths = says_settings; one = says_one_thing; written = written_says_settings }

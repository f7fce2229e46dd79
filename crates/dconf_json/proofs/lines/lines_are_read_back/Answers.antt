use Rattle.dconf_json.proofs.Printable.{explanations_are_read_back, keys_are_read_back, locks_are_read_back, members_are_read_back, names_are_read_back, values_are_read_back}
use Rattle.dconf_json.proofs.lines.lines_are_read_back.Goals as goal

pub returns : goal.returns
returns c = record {
  values = values_are_read_back;
  names = names_are_read_back;
  members = members_are_read_back;
  explanations = explanations_are_read_back;
  keys = keys_are_read_back;
  locks = locks_are_read_back;
}

use Rattle.std.proofs.Common.{rules, ap, ◌∙◌}
use Rattle.gv_model.specs.Encode.{number_bytes}
use Rattle.gv_view.proofs.Numbers.{little_number-whole}
use Rattle.dconf_notes.proofs.RecordLaws.{eight_back}
use Rattle.dconf_notes.proofs.reading.number.Goals as goal

pub returns : goal.returns
returns c = ap (number_bytes 8) (c.read_u64.ensures ∙ little_number-whole 8 c.args.bytes.now c.requires) ∙ eight_back c.args.bytes.now c.requires (search rules)

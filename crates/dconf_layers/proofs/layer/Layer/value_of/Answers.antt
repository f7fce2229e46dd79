use Rattle.std.proofs.Common.{rules}
use Rattle.dconf_layers.proofs.EntryLaws.{value_shown, no_value_shown}
use Rattle.dconf_layers.proofs.layer.Layer.value_of.Goals as goal

pub returns-then-item-letter : goal.returns-then-item-letter
returns-then-item-letter c = value_shown c.args.self c.args.i c.in_ok-item.item c.in_ok-item.ensures.shows (search rules)

pub returns-else-item-letter : goal.returns-else-item-letter
returns-else-item-letter c = no_value_shown c.args.self c.args.i c.in_ok-item.item c.in_ok-item.ensures.shows (search rules)

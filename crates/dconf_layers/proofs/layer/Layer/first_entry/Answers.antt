use Rattle.std.proofs.Common.{rules}
use Rattle.dconf_layers.proofs.EntryLaws.{entry_here, no_entry_here}
use Rattle.dconf_layers.proofs.layer.Layer.first_entry.Goals as goal

pub returns-in-Some-clause-entry : goal.returns-in-Some-clause-entry
returns-in-Some-clause-entry c = search (rules, entry_here)

pub loop-left-preserved : goal.loop-left-preserved
loop-left-preserved c = search (rules, no_entry_here)

use Rattle.std.proofs.Common.{rules}
use Rattle.std.proofs.lemmas.List.Edits.{map_over_more}
use Rattle.dconf_waiting.specs.Fates.{marked}
use Rattle.dconf_waiting.proofs.line.mark.Goals as goal

pub loop-waiter-preserved : goal.loop-waiter-preserved
loop-waiter-preserved c = search (rules, map_over_more (marked c.args.is_written))

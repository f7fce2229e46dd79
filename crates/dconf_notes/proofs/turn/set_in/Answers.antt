use Rattle.std.proofs.Common.{rules}
use Rattle.dconf_notes.proofs.TurnLaws.{set_behind}
use Rattle.dconf_notes.proofs.turn.set_in.Goals as goal

pub returns-in-Some : goal.returns-in-Some
returns-in-Some c = set_behind c.args.notes.now c.in-Some.more.now c.behind.result.now c.in-Some.turn.now (search rules) c.behind.ensures

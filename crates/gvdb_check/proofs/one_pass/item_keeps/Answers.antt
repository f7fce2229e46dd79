use Rattle.std.proofs.Common.{rules}
use Rattle.gvdb_check.proofs.one_pass.item_keeps.Goals as goal

pub returns-then-has_usual_key : goal.returns-then-has_usual_key
returns-then-has_usual_key c = search rules

pub returns-else-has_usual_key : goal.returns-else-has_usual_key
returns-else-has_usual_key c = search rules

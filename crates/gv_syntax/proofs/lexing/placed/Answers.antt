use Rattle.std.proofs.Common.{rules}
use Rattle.gv_syntax.proofs.lexing.placed.Goals as goal

pub returns-in-Err-clause-found : goal.returns-in-Err-clause-found
returns-in-Err-clause-found c = search rules

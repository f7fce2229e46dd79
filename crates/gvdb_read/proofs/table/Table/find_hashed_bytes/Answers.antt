use Rattle.std.proofs.Common.{rules, arith}
use Rattle.std.proofs.lemmas.Grind.{common_steps}
use Rattle.gvdb_read.proofs.table.Table.find_hashed_bytes.Goals as goal

pub returns-in_err-i-clause-none : goal.returns-in_err-i-clause-none
returns-in_err-i-clause-none c = search rules

pub pointed_at-requires-clause-of_kind : goal.pointed_at-requires-clause-of_kind
pointed_at-requires-clause-of_kind c = search rules

pub returns-clause-found : goal.returns-clause-found
returns-clause-found c = search rules

pub returns-clause-none : goal.returns-clause-none
returns-clause-none c = grind (arith, common_steps)

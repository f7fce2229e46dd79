use Rattle.std.proofs.Common.{rules}
use Rattle.gv_normal.proofs.tuple.member_place.Goals as goal

pub returns-then-is_last : goal.returns-then-is_last
returns-then-is_last c = search rules

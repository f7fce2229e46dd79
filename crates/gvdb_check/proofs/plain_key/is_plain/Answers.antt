use Rattle.std.proofs.Common.{rules}
use Rattle.gvdb_check.proofs.plain_key.is_plain.Goals as goal

pub returns-then-byte-lt128 : goal.returns-then-byte-lt128
returns-then-byte-lt128 c = search rules

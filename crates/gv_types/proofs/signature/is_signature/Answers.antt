use Rattle.std.proofs.Common.{rules}
use Rattle.gv_types.proofs.signature.is_signature.Goals as goal

pub returns-then-not-contains : goal.returns-then-not-contains
returns-then-not-contains c = search rules

pub returns-else-not-contains : goal.returns-else-not-contains
returns-else-not-contains c = search rules

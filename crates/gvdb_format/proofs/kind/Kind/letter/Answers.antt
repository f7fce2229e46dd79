use Rattle.std.proofs.Common.{rules}
use Rattle.gvdb_format.proofs.kind.Kind.letter.Goals as goal

pub returns-in-List : goal.returns-in-List
returns-in-List c = search rules

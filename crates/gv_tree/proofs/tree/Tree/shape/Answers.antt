use Rattle.std.proofs.Common.{rules}
use Rattle.gv_tree.proofs.tree.Tree.shape.Goals as goal

pub returns-in-Basic-clause-shape : goal.returns-in-Basic-clause-shape
returns-in-Basic-clause-shape c = search rules

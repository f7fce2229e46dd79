use Rattle.std.proofs.Common.{rules}
use Rattle.gv_tree.proofs.tree.Tree.nodes.Goals as goal

pub returns : goal.returns
returns c = search rules

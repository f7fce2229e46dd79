use Rattle.std.proofs.Common.{take}
use Rattle.gv_model.specs.Typed.{AllOf}
use Rattle.gv_types.specs.TypeStr.{ty}
use Rattle.gv_tree.specs.Nodes.{trees_of}
use Rattle.gv_tree.proofs.type_texts.first_other.Given as goal

abbrev pub invariant-loop-i : goal.invariant-loop-i
invariant-loop-i l = AllOf (ty l.of) (trees_of (take l.i l.trees))

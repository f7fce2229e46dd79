use Rattle.std.proofs.Common.{drop, ◌≡◌, ◌++◌}
use Rattle.std.specs.Prelude.{string_bytes}
use Rattle.gv_model.specs.Ty.{spellings}
use Rattle.gv_model.specs.Typed.{types_of}
use Rattle.gv_tree.specs.Nodes.{trees_of}
use Rattle.gv_tree.proofs.type_texts.bracketed.Given as goal

abbrev pub invariant-loop-tree : goal.invariant-loop-tree
invariant-loop-tree l =
    string_bytes l.text ++ spellings (types_of (trees_of (drop l.tree-index l.trees))) ≡ l.fn.opening ++ spellings (types_of (trees_of l.trees))

-- How a fault is printed.
use Rattle.std.specs.Prelude.{ℕ, List, ◌++◌, codes, decimal}
use Rattle.gv_tree.specs.declared.fault.TreeFlaw.{TreeFlaw}
use Rattle.gv_tree.specs.declared.fault.TreeFlaw.TheVariants.{HasNul, BadObjectPath, BadSignature, WrongType, KeyNotBasic, TooDeep, TooLarge}

abbrev pub tree_fault_name : TreeFlaw → List ℕ
tree_fault_name HasNul = codes "HasNul"
tree_fault_name BadObjectPath = codes "BadObjectPath"
tree_fault_name BadSignature = codes "BadSignature"
tree_fault_name (WrongType at) = codes "WrongType"
tree_fault_name KeyNotBasic = codes "KeyNotBasic"
tree_fault_name TooDeep = codes "TooDeep"
tree_fault_name TooLarge = codes "TooLarge"

-- its name, and where it is if that is known, as `WrongType at 2`
abbrev pub tree_fault_text : TreeFlaw → List ℕ
tree_fault_text (WrongType at) = tree_fault_name (WrongType at) ++ (codes " at " ++ decimal at)
tree_fault_text f = tree_fault_name f

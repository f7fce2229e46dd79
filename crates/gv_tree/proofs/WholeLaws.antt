-- What holds of a whole tree, and of the text of its type.
use Rattle.std.proofs.Common.{refl}
use Rattle.gv_model.specs.Ty.{spelling}
use Rattle.gv_model.specs.Tree.{Tree as Value, type_of}
use Rattle.gv_model.proofs.TypeTextParts.{IsTextOfType, text_of_type}
use Rattle.gv_tree.specs.Wholes.{IsWhole}

-- the text of a whole tree's type
pub whole_text : (v : Value) → IsWhole v → IsTextOfType (type_of v) (spelling (type_of v))
whole_text v h = text_of_type (type_of v) (spelling (type_of v)) refl h.limits

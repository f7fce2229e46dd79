use Rattle.std.proofs.Common.{◌≡◌, take}
use Rattle.std.specs.Prelude.{map}
use Rattle.gv_model.specs.Ty.Basic.{byte}
use Rattle.gv_model.specs.Tree.Tree.{number}
use Rattle.gv_infer.proofs.literal.byte_string_at.Given as goal

abbrev pub invariant-loop-byte : goal.invariant-loop-byte
invariant-loop-byte l = l.trees.items ≡ map (number byte) (take l.byte-index l.bytes)

use Rattle.std.proofs.Common.{◌≡◌, true, drop}
use Rattle.gv_model.specs.Texts.{are_parts}
use Rattle.gv_types.proofs.object_path.are_parts.Given as goal

abbrev pub invariant-loop-byte : goal.invariant-loop-byte
invariant-loop-byte l = are_parts true l.parts ≡ are_parts l.at_slash (drop l.byte-index l.parts)

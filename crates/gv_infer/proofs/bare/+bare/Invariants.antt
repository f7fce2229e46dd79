use Rattle.gv_model.specs.Ty.{nesting}
use Rattle.gv_types.specs.TypeStr.{ty}
use Rattle.gv_infer.proofs.bare.+bare.Given as goal

abbrev pub decreases-bare : goal.decreases-bare
decreases-bare l = nesting (ty l.of)

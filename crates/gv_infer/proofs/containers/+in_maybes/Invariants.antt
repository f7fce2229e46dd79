use Rattle.gv_model.specs.Ty.{nesting}
use Rattle.gv_types.specs.TypeStr.{ty}
use Rattle.gv_infer.proofs.containers.+in_maybes.Given as goal

abbrev pub decreases-in_maybes : goal.decreases-in_maybes
decreases-in_maybes l = nesting (ty l.of)

use Rattle.gv_model.specs.Ty.Ty.{maybe}
use Rattle.gv_model.specs.Tree.Tree.{node}
use Rattle.gv_model.specs.Tree.Trees.{none}
use Rattle.gv_types.specs.TypeStr.{ty}
use Rattle.gv_infer.proofs.MadeTrees.{content_of}
use Rattle.gv_infer.proofs.containers.nothing.Goals as goal

pub returns : goal.returns
returns c =
    let w = node (maybe (ty c.args.of)) none in
    let is = content_of (ty c.args.of) w c.maybe.result tt c.requires.within c.maybe.ensures.made c.maybe.ensures.whole c.maybe.ensures.fault in
    record { built = c.shallow.ensures.built w is.made }

use Rattle.std.proofs.Common.{refl}
use Rattle.gv_model.specs.Ty.Ty.{maybe}
use Rattle.gv_model.specs.Tree.Tree.{node}
use Rattle.gv_model.specs.Tree.Trees.{none, first}
use Rattle.gv_types.specs.TypeStr.{ty}
use Rattle.gv_infer.proofs.MadeTrees.{content_of, shown_some, shown_none, typed_some, deep_one}
use Rattle.gv_infer.proofs.containers.just.Goals as goal

pub returns-in-Some-clause-built : goal.returns-in-Some-clause-built
returns-in-Some-clause-built c =
    let w = node (maybe (ty c.args.of)) (first c.in-Some.child none) in
    let is = content_of (ty c.args.of) w c.maybe.result (typed_some _ _ _ c.in-Some.is c.requires.typed, tt) c.requires.within c.maybe.ensures.made c.maybe.ensures.whole c.maybe.ensures.fault in
    λ v h. rw (shown_some _ _ v c.in-Some.is h) (c.shallow.ensures.built w is.made)

pub returns-in-Some-clause-typed : goal.returns-in-Some-clause-typed
returns-in-Some-clause-typed c =
    let w = node (maybe (ty c.args.of)) (first c.in-Some.child none) in
    let is = content_of (ty c.args.of) w c.maybe.result (typed_some _ _ _ c.in-Some.is c.requires.typed, tt) c.requires.within c.maybe.ensures.made c.maybe.ensures.whole c.maybe.ensures.fault in
    c.shallow.ensures.typed (maybe (ty c.args.of)) is.typed

pub returns-in-None-clause-built : goal.returns-in-None-clause-built
returns-in-None-clause-built c = λ v h. (node (maybe (ty c.args.of)) (first v none), refl, deep_one _ v (shown_none _ v c.in-None.is h))

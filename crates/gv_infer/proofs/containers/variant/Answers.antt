use Rattle.std.proofs.Common.{refl}
use Rattle.gv_model.specs.Ty.Ty.{variant}
use Rattle.gv_model.specs.Tree.Tree.{node}
use Rattle.gv_model.specs.Tree.Trees.{none, first}
use Rattle.gv_infer.proofs.MadeTrees.{container_of, variant_within, shown_some, shown_none, deep_one}
use Rattle.gv_infer.proofs.containers.variant.Goals as goal

pub shallow-requires : goal.shallow-requires
shallow-requires c = (container_of (node variant (first c.in-Some.child none)) c.variant.result variant_within c.variant.ensures.made c.variant.ensures.whole c.variant.ensures.fault).may

pub returns-in-Some-clause-built : goal.returns-in-Some-clause-built
returns-in-Some-clause-built c =
    let w = node variant (first c.in-Some.child none) in
    let is = container_of w c.variant.result variant_within c.variant.ensures.made c.variant.ensures.whole c.variant.ensures.fault in
    λ v h. rw (shown_some _ _ v c.in-Some.is h) (c.shallow.ensures.built w is.made)

pub returns-in-Some-clause-typed : goal.returns-in-Some-clause-typed
returns-in-Some-clause-typed c =
    c.shallow.ensures.typed variant (container_of (node variant (first c.in-Some.child none)) c.variant.result variant_within c.variant.ensures.made c.variant.ensures.whole c.variant.ensures.fault).typed

pub returns-in-None-clause-built : goal.returns-in-None-clause-built
returns-in-None-clause-built c = λ v h. (node variant (first v none), refl, deep_one _ v (shown_none _ v c.in-None.is h))

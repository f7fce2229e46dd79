use Rattle.std.proofs.Common.{refl, sym, subst}
use Rattle.gv_model.specs.Ty.Ty.{tuple}
use Rattle.gv_model.specs.Typed.{types_of}
use Rattle.gv_model.specs.Tree.Tree.{node}
use Rattle.gv_types.specs.TypeStr.{ty}
use Rattle.gv_tree.specs.Nodes.{trees_of}
use Rattle.gv_infer.specs.Building.{IsWithinLimits, IsOfType}
use Rattle.gv_infer.proofs.MadeTrees.{container_of, within_type, shown_list, shown_no_list, members_of_some, deep_node}
use Rattle.gv_infer.proofs.containers.tuple.Goals as goal

pub shallow-requires : goal.shallow-requires
shallow-requires c =
    let vs = trees_of c.in-Some.members.items in
    let type = members_of_some _ _ _ c.in-Some.is c.requires in
    (container_of (node (tuple (types_of vs)) vs) c.tuple.result (subst IsWithinLimits type (within_type _ c.args.of.spells_type)) c.tuple.ensures.made c.tuple.ensures.whole c.tuple.ensures.fault).may

pub returns-in-Some-clause-built : goal.returns-in-Some-clause-built
returns-in-Some-clause-built c =
    let us = trees_of c.in-Some.members.items in
    let w = node (tuple (types_of us)) us in
    let type = members_of_some _ _ _ c.in-Some.is c.requires in
    let is = container_of w c.tuple.result (subst IsWithinLimits type (within_type _ c.args.of.spells_type)) c.tuple.ensures.made c.tuple.ensures.whole c.tuple.ensures.fault in
    λ vs h. rw (shown_list _ _ vs c.in-Some.is h, type) (c.shallow.ensures.built w is.made)

pub returns-in-Some-clause-typed : goal.returns-in-Some-clause-typed
returns-in-Some-clause-typed c =
    let us = trees_of c.in-Some.members.items in
    let w = node (tuple (types_of us)) us in
    let type = members_of_some _ _ _ c.in-Some.is c.requires in
    let is = container_of w c.tuple.result (subst IsWithinLimits type (within_type _ c.args.of.spells_type)) c.tuple.ensures.made c.tuple.ensures.whole c.tuple.ensures.fault in
    subst (λ t. IsOfType t c.shallow.result) (sym type) (c.shallow.ensures.typed (tuple (types_of us)) is.typed)

pub returns-in-None-clause-built : goal.returns-in-None-clause-built
returns-in-None-clause-built c = λ vs h. (node (ty c.args.of) vs, refl, deep_node _ vs (shown_no_list _ vs c.in-None.is h))

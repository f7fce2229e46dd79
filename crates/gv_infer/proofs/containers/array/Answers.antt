use Rattle.std.proofs.Common.{refl}
use Rattle.gv_model.specs.Ty.Ty.{array}
use Rattle.gv_model.specs.Tree.Tree.{node}
use Rattle.gv_types.specs.TypeStr.{ty}
use Rattle.gv_tree.specs.Nodes.{trees_of}
use Rattle.gv_infer.proofs.MadeTrees.{content_of, shown_list, shown_no_list, all_of_some, deep_node}
use Rattle.gv_infer.proofs.containers.array.Goals as goal

pub shallow-requires : goal.shallow-requires
shallow-requires c =
    let w = node (array (ty c.args.of)) (trees_of c.in-Some.elements.items) in
    (content_of (ty c.args.of) w c.array.result (all_of_some _ _ _ c.in-Some.is c.requires.typed) c.requires.within c.array.ensures.made c.array.ensures.whole c.array.ensures.fault).may

pub returns-in-Some-clause-built : goal.returns-in-Some-clause-built
returns-in-Some-clause-built c =
    let w = node (array (ty c.args.of)) (trees_of c.in-Some.elements.items) in
    let is = content_of (ty c.args.of) w c.array.result (all_of_some _ _ _ c.in-Some.is c.requires.typed) c.requires.within c.array.ensures.made c.array.ensures.whole c.array.ensures.fault in
    λ vs h. rw (shown_list _ _ vs c.in-Some.is h) (c.shallow.ensures.built w is.made)

pub returns-in-Some-clause-typed : goal.returns-in-Some-clause-typed
returns-in-Some-clause-typed c =
    let w = node (array (ty c.args.of)) (trees_of c.in-Some.elements.items) in
    let is = content_of (ty c.args.of) w c.array.result (all_of_some _ _ _ c.in-Some.is c.requires.typed) c.requires.within c.array.ensures.made c.array.ensures.whole c.array.ensures.fault in
    c.shallow.ensures.typed (array (ty c.args.of)) is.typed

pub returns-in-None-clause-built : goal.returns-in-None-clause-built
returns-in-None-clause-built c = λ vs h. (node (array (ty c.args.of)) vs, refl, deep_node _ vs (shown_no_list _ vs c.in-None.is h))

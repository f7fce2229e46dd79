use Rattle.std.proofs.Common.{refl}
use Rattle.gv_types.specs.TypeStr.{ty}
use Rattle.gv_infer.specs.Building.{entry_node}
use Rattle.gv_infer.proofs.MadeTrees.{entry_key, entry_made, within_type, shown_some, shown_none, deep_key, deep_value}
use Rattle.gv_infer.proofs.containers.entry.Goals as goal

pub shallow-requires : goal.shallow-requires
shallow-requires c =
    let key = entry_key (ty c.args.of) _ _ c.in-Some.key c.in-Some-value.value c.in-Some.is c.in-Some-value.is c.requires in
    (entry_made (ty c.args.of) key.0 c.in-Some.key c.in-Some-value.value c.entry.result key.1 key.2 (within_type _ c.args.of.spells_type) c.entry.ensures.made c.entry.ensures.whole c.entry.ensures.fault).may

pub returns-in-Some-value-clause-built : goal.returns-in-Some-value-clause-built
returns-in-Some-value-clause-built c =
    let key = entry_key (ty c.args.of) _ _ c.in-Some.key c.in-Some-value.value c.in-Some.is c.in-Some-value.is c.requires in
    let is = entry_made (ty c.args.of) key.0 c.in-Some.key c.in-Some-value.value c.entry.result key.1 key.2 (within_type _ c.args.of.spells_type) c.entry.ensures.made c.entry.ensures.whole c.entry.ensures.fault in
    λ u v h g. rw (shown_some _ _ u c.in-Some.is h, shown_some _ _ v c.in-Some-value.is g) (c.shallow.ensures.built (entry_node (ty c.args.of) c.in-Some.key c.in-Some-value.value) is.made)

pub returns-in-Some-value-clause-typed : goal.returns-in-Some-value-clause-typed
returns-in-Some-value-clause-typed c =
    let key = entry_key (ty c.args.of) _ _ c.in-Some.key c.in-Some-value.value c.in-Some.is c.in-Some-value.is c.requires in
    let is = entry_made (ty c.args.of) key.0 c.in-Some.key c.in-Some-value.value c.entry.result key.1 key.2 (within_type _ c.args.of.spells_type) c.entry.ensures.made c.entry.ensures.whole c.entry.ensures.fault in
    c.shallow.ensures.typed (ty c.args.of) is.typed

pub returns-in-None-value-clause-built : goal.returns-in-None-value-clause-built
returns-in-None-value-clause-built c = λ u v h g. (entry_node (ty c.args.of) u v, refl, deep_value _ u v (shown_none _ v c.in-None-value.is g))

pub returns-in-None-clause-built : goal.returns-in-None-clause-built
returns-in-None-clause-built c = λ u v h g. (entry_node (ty c.args.of) u v, refl, deep_key _ u v (shown_none _ u c.in-None.is h))

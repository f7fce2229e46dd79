use Rattle.std.proofs.Common.{Ok, sym, arith, subst}
use Rattle.std.proofs.lemmas.List.{take_all}
use Rattle.gv_model.specs.Tree.Tree.{node}
use Rattle.gv_model.specs.Typed.{AllOf}
use Rattle.gv_model.specs.Literals.{byte_string_trees}
use Rattle.gv_types.specs.TypeStr.{ty}
use Rattle.gv_infer.specs.Building.{IsBuilt, IsWithinLimits}
use Rattle.gv_infer.proofs.ByteLaws.{byte_element, bytes_whole, bytes_typed}
use Rattle.gv_infer.proofs.MadeTrees.{within_type}
use Rattle.gv_infer.proofs.literal.byte_string_at.Goals as goal

pub array-requires-clause-typed : goal.array-requires-clause-typed
array-requires-clause-typed c =
    let type = byte_element _ _ _ c.requires c.element.ensures c.unwrap.ensures in
    let whole = bytes_whole _ _ _ _ c.in_ok-push_byte-2.ensures c.loop-byte.invariant (take_all c.loop-byte.byte-index c.args.bytes.now (omega arith)) in
    subst (AllOf (ty c.unwrap.result)) (sym whole) (bytes_typed _ c.args.bytes.now (sym type.holds))

pub array-requires-clause-within : goal.array-requires-clause-within
array-requires-clause-within c =
    let type = byte_element _ _ _ c.requires c.element.ensures c.unwrap.ensures in
    subst IsWithinLimits type.is (within_type _ c.args.of.spells_type)

pub returns-clause-built : goal.returns-clause-built
returns-clause-built c =
    let type = byte_element _ _ _ c.requires c.element.ensures c.unwrap.ensures in
    let whole = bytes_whole _ _ _ _ c.in_ok-push_byte-2.ensures c.loop-byte.invariant (take_all c.loop-byte.byte-index c.args.bytes.now (omega arith)) in
    subst (λ t. IsBuilt (Ok (node t (byte_string_trees c.args.bytes.now))) c.array.result) (sym type.is) (c.array.ensures.built (byte_string_trees c.args.bytes.now) (sym whole))
